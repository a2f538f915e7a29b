-- Where a census stands, by its oracle's current object and by the list.
use Rattle.std.proofs.Common.{◌≡◌, ℕ, ◌+◌, ◌<◌, ◌≤◌, ◌⊎◌, sym, ap, ◌∙◌, inl, inr, arith}
use Rattle.std.proofs.lemmas.Bool.{cases_lt}
use Rattle.oracle.proofs.Complete.{complete}
use Rattle.oracle.specs.Laws.{Object, Lawful}
use Rattle.oracle.specs.Places.{at, objects}
use Rattle.oracle.specs.Setup.{Code, Setup}
use Rattle.oracle.specs.Walk.{on, past}
use Rattle.oracle.specs.declared.walking.Walking.{Ghosts}
use Rattle.engine.specs.Stand.{Placed, object_at, standing_at, stand_of}
use Rattle.engine.specs.States.{spot_of}
use Rattle.engine.specs.View.{shown}
use Rattle.engine.specs.declared.census.tour.Tour.{Tour}
use Rattle.engine.specs.declared.rest.Rest.{Rest}
use Rattle.engine.specs.declared.rest.Rest.TheVariants.{Standing, Past}

module _ (s : Setup) (law : Lawful s) where
  -- what stands at the place of a census
  pub spot_at : (rest : Rest) (v : Code) → Object s v → at s (stand_of s rest v).place ≡ spot_of rest v
  spot_at Standing v o = (complete s law).at_its_place v o
  spot_at Past v o = (complete s law).at_beyond (objects s + 1) (omega arith)

  pub stand_at : (p : ℕ) (w : Code) → at s p ≡ on w → stand_of s Standing w ≡ standing_at s p
  stand_at p w e =
      ap (λ q. record { current = w; place = q }) ((complete s law).place_of_at w p e)
      ∙ sym (ap (λ t. record { current = object_at s t; place = p }) e)

  pub stand_first : stand_of s Standing s.root ≡ standing_at s 1
  stand_first = stand_at 1 s.root (complete s law).root_first

  -- the place after the last one is the one past the end
  pub stand_past : (p : ℕ) → p ≤ objects s → at s (p + 1) ≡ past → stand_of s Past s.root ≡ standing_at s (p + 1)
  stand_past p le e =
      ap (λ q. record { current = s.root; place = q + 1 }) (last (cases_lt p (objects s)))
      ∙ sym (ap (λ t. record { current = object_at s t; place = p + 1 }) e)
    where
      last : (p < objects s) ⊎ (objects s ≤ p) → objects s ≡ p
      last (inl lt) =
          let (w, f) = (complete s law).at_within (p + 1) (omega arith) (omega arith) in
          let z : ◌≡◌ {A = ℕ} 0 1 = cc in
          absurd (omega arith)
      last (inr ge) = omega arith

-- what stands at the place of a census
pub spot_of_tour : {D : Type 0} (W : Ghosts D) (tour : Tour D) → W.sound tour.oracle → at (W.setup tour.oracle) (shown W.setup W.current tour).stand.place ≡ spot_of tour.rest (W.current tour.oracle)
spot_of_tour W tour sound =
    let o = tour.oracle in
    spot_at (W.setup o) (W.lawful o sound) tour.rest (W.current o) (W.stands o sound)

pub placed : {D : Type 0} (W : Ghosts D) (tour : Tour D) → W.sound tour.oracle → Placed (W.setup tour.oracle) (shown W.setup W.current tour).stand
placed W tour sound = go tour.rest
  where
    s : Setup
    s = W.setup tour.oracle

    v : Code
    v = W.current tour.oracle

    law : Lawful s
    law = W.lawful tour.oracle sound

    o : Object s v
    o = W.stands tour.oracle sound

    go : (rest : Rest) → Placed s (stand_of s rest v)
    go Standing =
        let all = complete s law in
        let from = all.place_from v o in
        let upto = all.place_upto v o in
        record { lawful = law; object = o; from = from; upto = omega arith; current = λ _. all.at_its_place v o }
    go Past = record { lawful = law; object = o; from = omega arith; upto = omega arith; current = λ le. absurd (omega arith) }
