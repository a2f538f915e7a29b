-- The acts that walk, as the plain census makes them.
use Rattle.std.proofs.Common.{◌≡◌, ℕ, ◌+◌, Some, None, Ok, Option, Result, sym, refl, ap, ◌∙◌, ap₂}
use Rattle.refusals.specs.declared.Refusal.{Refusal}
use Rattle.oracle.proofs.Complete.{complete}
use Rattle.oracle.proofs.LeadsOn.{leads_on}
use Rattle.oracle.specs.Laws.{Object, Lawful}
use Rattle.oracle.specs.Places.{at, place}
use Rattle.oracle.specs.Setup.{Code, Setup}
use Rattle.oracle.specs.Walk.{Spot, on, past, walk}
use Rattle.oracle.specs.declared.walking.Walking.{Ghosts}
use Rattle.engine.proofs.Standings.{spot_at, stand_at, stand_first, stand_past}
use Rattle.engine.specs.Places.{rank_at, next_from}
use Rattle.engine.specs.Plain.{plain_next}
use Rattle.engine.specs.Stand.{Stand, standing_at, stand_of}
use Rattle.engine.specs.States.{spot_of, advanced, next_state, next_booked}
use Rattle.engine.specs.Tallies.{cleared, booked, booked_from}
use Rattle.engine.specs.View.{View, shown, begun}
use Rattle.engine.specs.declared.census.tour.Tour.{Tour}
use Rattle.engine.specs.declared.rest.Rest.{Rest}
use Rattle.engine.specs.declared.rest.Rest.TheVariants.{Standing, Past}
use Rattle.engine.specs.declared.tally.Tally.{Tally}

abbrev pub view : Setup → Rest → Code → Tally → View
view s rest v t = record { stand = stand_of s rest v; tally = t }

-- at the root, with a cleared tally
pub begins : (s : Setup) (law : Lawful s) (now : Setup) (rest : Rest) (w : Code) (t : Tally) → now ≡ s → rest ≡ Standing → w ≡ s.root → t ≡ cleared → view now rest w t ≡ begun s
begins s law now rest w t same stands root clear =
    ap₂ (λ n r. view n r w t) same stands
    ∙ ap₂ (λ x u. view s Standing x u) root clear
    ∙ ap (λ st. record { stand = st; tally = cleared }) (stand_first s law)

module _ (s : Setup) (law : Lawful s) (v : Code) (o : Object s v) (t : Tally) where
  -- a next from a spot
  abbrev went : Stand → Spot → Result (Option ℕ) Refusal × View
  went here spot = (
    (next_from s here spot).0,
    record { stand = (next_from s here spot).1; tally = booked_from s here.place t spot },
  )

  -- the spot where the walk stops is the one at the next place
  stops : (walk s v).stop ≡ at s (place s v + 1)
  stops = leads_on s law v (place s v) ((complete s law).at_its_place v o)

  landed : (spot : Spot) → at s (place s v + 1) ≡ spot → ◌≡◌ {A = Result (Option ℕ) Refusal × Stand} (Ok (advanced s spot).0, stand_of s (advanced s spot).1 (advanced s spot).2) (Ok (rank_at s spot), standing_at s (place s v + 1))
  landed (on w) e = ap (λ st. (Ok (Some (s.rank w)), st)) (stand_at s law (place s v + 1) w e)
  landed past e = ap (λ st. (Ok None, st)) (stand_past s law (place s v) ((complete s law).place_upto v o) e)

  next-at : (rest : Rest) → ((next_state s rest v).0, view s (next_state s rest v).1 (next_state s rest v).2 (next_booked s rest v t)) ≡ went (stand_of s rest v) (spot_of rest v)
  next-at Past = refl
  next-at Standing =
      let spot = at s (place s v + 1) in
      ap (λ q. (Ok (advanced s q).0, view s (advanced s q).1 (advanced s q).2 (booked q (walk s v).steps t))) stops
      ∙ ap (λ a. (a.0, record { stand = a.1; tally = booked spot (walk s v).steps t })) (landed spot refl)

-- a next of a census
pub next_moves : {D : Type 0} (W : Ghosts D) (tour after : Tour D) (r : Result (Option ℕ) Refusal) → W.sound tour.oracle → W.setup after.oracle ≡ W.setup tour.oracle → (r, after.rest, W.current after.oracle) ≡ next_state (W.setup tour.oracle) tour.rest (W.current tour.oracle) → after.tally ≡ next_booked (W.setup tour.oracle) tour.rest (W.current tour.oracle) tour.tally → (r, shown W.setup W.current after) ≡ plain_next (W.setup tour.oracle) (shown W.setup W.current tour)
next_moves W tour after r sound same moved counts =
    let s = W.setup tour.oracle in
    let v = W.current tour.oracle in
    let law = W.lawful tour.oracle sound in
    let o = W.stands tour.oracle sound in
    ap₂ (λ n a. (a.0, view n a.1 a.2 after.tally)) same moved
    ∙ ap (λ x. ((next_state s tour.rest v).0, view s (next_state s tour.rest v).1 (next_state s tour.rest v).2 x)) counts
    ∙ next-at s law v o tour.tally tour.rest
    ∙ sym (ap (went s law v o tour.tally (stand_of s tour.rest v)) (spot_at s law tour.rest v o))
