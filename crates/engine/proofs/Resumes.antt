-- The acts with codes, as the plain census makes them.
use Rattle.std.proofs.Common.{◌≡◌, ℕ, ◌<◌, Bool, true, false, ltb, List, length, take, drop, Ok, Err, Result, sym, ap, ◌∙◌, subst, ap₂, arith}
use Rattle.std.proofs.lemmas.List.{take_at}
use Rattle.refusals.specs.declared.Refusal.{Refusal}
use Rattle.oracle.proofs.Complete.{complete}
use Rattle.oracle.specs.Laws.{Object, Lawful}
use Rattle.oracle.specs.Places.{place}
use Rattle.oracle.specs.Setup.{Code, Setup}
use Rattle.oracle.specs.declared.walking.Walking.{Ghosts}
use Rattle.marks.proofs.RoundTrip.{block_length, round_trip}
use Rattle.marks.specs.Layout.{block, placed}
use Rattle.marks.specs.Opening.{opened, moved_to}
use Rattle.engine.proofs.Moves.{view}
use Rattle.engine.proofs.Standings.{stand_at}
use Rattle.engine.specs.Places.{resume_to, save_from}
use Rattle.engine.specs.Plain.{plain_resume, OpensAgain}
use Rattle.engine.specs.Stand.{standing_at, stand_of}
use Rattle.engine.specs.States.{spot_of, rest_after, tally_after}
use Rattle.engine.specs.Tallies as tallies
use Rattle.engine.specs.Tallies.{cleared}
use Rattle.engine.specs.View.{View, shown}
use Rattle.engine.specs.declared.census.tour.Tour.{Tour}
use Rattle.engine.specs.declared.rest.Rest.{Rest}
use Rattle.engine.specs.declared.rest.Rest.TheVariants.{Standing, Past}
use Rattle.engine.specs.declared.tally.Tally.{Tally}

-- what an opening says of its answer
abbrev resumed : Setup → View → Result Code Refusal → Result (Unit {0}) Refusal × View
resumed s v q = ((resume_to s v.stand q).0, record { stand = (resume_to s v.stand q).1; tally = tallies.cleared_by v.tally q })

module _ (s : Setup) (law : Lawful s) (rest : Rest) (v : Code) (t : Tally) where
  resume-moves : (q : Result Code Refusal) (r : Result (Unit {0}) Refusal) (w : Code) → Object s w → (r, w) ≡ moved_to v q → (r, view s (rest_after r rest) w (tally_after r t)) ≡ resumed s (view s rest v t) q
  resume-moves (Err e) (Err f) w o p = ap (λ x. (x.0, view s rest x.1 t)) p
  resume-moves (Ok x) (Ok u) w o p =
      ap (λ st. (Ok tt, record { stand = st; tally = cleared })) (stand_at s law (place s w) w ((complete s law).at_its_place w o))
      ∙ ap (λ y. (Ok tt, record { stand = standing_at s (place s y.1); tally = cleared })) p
  resume-moves (Err e) (Ok u) w o p = let h = ap (λ x. x.0) p in let z : ◌≡◌ {A = ℕ} 0 1 = cc in absurd (omega arith)
  resume-moves (Ok x) (Err f) w o p = let h = ap (λ x. x.0) p in let z : ◌≡◌ {A = ℕ} 0 1 = cc in absurd (omega arith)

-- a resume of a census
pub resumes : {D : Type 0} (W : Ghosts D) (tour after : Tour D) (job : ℕ) (block : List ℕ) (r : Result (Unit {0}) Refusal) → W.sound tour.oracle → W.sound after.oracle → W.setup after.oracle ≡ W.setup tour.oracle → after.rest ≡ rest_after r tour.rest → after.tally ≡ tally_after r tour.tally → (r, W.current after.oracle) ≡ moved_to (W.current tour.oracle) (opened job (W.setup tour.oracle) block) → (r, shown W.setup W.current after) ≡ plain_resume job (W.setup tour.oracle) (shown W.setup W.current tour) block
resumes W tour after job block r sound kept same rests clears moved =
    let s = W.setup tour.oracle in
    let w = W.current after.oracle in
    let o = subst (λ n. Object n w) same (W.stands after.oracle kept) in
    ap₂ (λ n a. (r, view n a w after.tally)) same rests
    ∙ ap (λ x. (r, view s (rest_after r tour.rest) w x)) clears
    ∙ resume-moves s (W.lawful tour.oracle sound) tour.rest (W.current tour.oracle) tour.tally (opened job s block) r w o moved

module _ (job : ℕ) (s : Setup) (law : Lawful s) (v : Code) (o : Object s v) (fits : job < 4294967296) where
  -- a granted save wrote the block to the front
  saved-front : (short : Bool) (u : Unit {0}) (bytes out : List ℕ) → (Ok u, out) ≡ placed short (block job s v) bytes → take 512 out ≡ block job s v
  saved-front true u bytes out p = let h = ap (λ x. x.0) p in let z : ◌≡◌ {A = ℕ} 0 1 = cc in absurd (omega arith)
  saved-front false u bytes out p =
      ap (λ x. take 512 x.1) p ∙ take_at (block job s v) (drop 512 bytes) 512 (block_length s law v o job fits)

  pub reopened : (out : List ℕ) → take 512 out ≡ block job s v → (other : Setup) → other ≡ s → (w : View) → plain_resume job other w (take 512 out) ≡ (Ok tt, record { stand = stand_of s Standing v; tally = cleared })
  reopened out front other same w =
      ap (λ n. plain_resume job n w (take 512 out)) same
      ∙ ap (plain_resume job s w) front
      ∙ ap (resumed s w) (round_trip s law v o job fits)
      ∙ sym (ap (λ st. (Ok tt, record { stand = st; tally = cleared })) (stand_at s law (place s v) v ((complete s law).at_its_place v o)))

-- a save of a census
pub opens_again : {D : Type 0} (W : Ghosts D) (tour : Tour D) (job : ℕ) (r : Result (Unit {0}) Refusal) (bytes out : List ℕ) → W.sound tour.oracle → job < 4294967296 → (r, out) ≡ save_from job (W.setup tour.oracle) bytes (spot_of tour.rest (W.current tour.oracle)) → OpensAgain job (W.setup tour.oracle) (shown W.setup W.current tour) r out
opens_again W tour job r bytes out sound fits e = go tour.rest r e
  where
    s : Setup
    s = W.setup tour.oracle

    v : Code
    v = W.current tour.oracle

    law : Lawful s
    law = W.lawful tour.oracle sound

    o : Object s v
    o = W.stands tour.oracle sound

    go : (rest : Rest) (q : Result (Unit {0}) Refusal) → (q, out) ≡ save_from job s bytes (spot_of rest v) → OpensAgain job s (view s rest v tour.tally) q out
    go rest (Err f) p = tt
    go Past (Ok u) p = let h = ap (λ x. x.0) p in let z : ◌≡◌ {A = ℕ} 0 1 = cc in absurd (omega arith)
    go Standing (Ok u) p = reopened job s law v o fits out (saved-front job s law v o fits (ltb (length bytes) 512) u bytes out p)
