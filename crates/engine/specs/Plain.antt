-- The acts of the plain census on a view: the place with its answers beside the tally.
use Rattle.std.specs.Prelude.{◌≡◌, ℕ, List, take, Ok, Err, Option, Result}
use Rattle.refusals.specs.declared.Refusal.{Refusal}
use Rattle.oracle.specs.Setup.{Setup}
use Rattle.engine.specs.Places.{next_place, resume_place}
use Rattle.engine.specs.Tallies.{cleared, next_tally, resume_tally}
use Rattle.engine.specs.View.{View}

abbrev pub plain_next : Setup → View → Result (Option ℕ) Refusal × View
plain_next s v = (
  (next_place s v.stand).0,
  record { stand = (next_place s v.stand).1; tally = next_tally s v.stand.place v.tally },
)

abbrev pub plain_resume : ℕ → Setup → View → List ℕ → Result (Unit {0}) Refusal × View
plain_resume job s v bytes = (
  (resume_place job s v.stand bytes).0,
  record { stand = (resume_place job s v.stand bytes).1; tally = resume_tally job s bytes v.tally },
)

-- A granted save can be opened: resume under the same job number, by any census whose oracle has an
-- equal set-up, stands where the saved one stood.
abbrev pub OpensAgain : ℕ → Setup → View → Result (Unit {0}) Refusal → List ℕ → Type 0
OpensAgain job s saved (Err e) bytes = Unit {0}
OpensAgain job s saved (Ok u) bytes =
    (t : Setup) → t ≡ s → (v : View) → plain_resume job t v (take 512 bytes) ≡ (Ok tt, record { stand = saved.stand; tally = cleared })
