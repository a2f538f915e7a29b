-- The rules of the tally. Its numbers stay at the ceiling once they are there.
use Rattle.std.specs.Prelude.{ℕ, ◌+◌, List, Ok, Err, Result}
use Rattle.refusals.specs.declared.Refusal.{Refusal}
use Rattle.oracle.specs.Outcomes.{counted}
use Rattle.oracle.specs.Places.{at}
use Rattle.oracle.specs.Setup.{Code, Setup}
use Rattle.oracle.specs.Walk.{Spot, on, past, walk}
use Rattle.marks.specs.Opening.{opened}
use Rattle.engine.specs.declared.tally.Tally.{Tally}

-- Of a census just made, restarted or resumed.
abbrev pub cleared : Tally
cleared = record { objects = 1; steps = 0 }

-- A walk of n steps booked: an object more, unless it ended past the end.
abbrev pub booked : Spot → ℕ → Tally → Tally
booked (on w) n t = record { objects = counted (t.objects + 1); steps = counted (t.steps + n) }
booked past n t = record { objects = t.objects; steps = counted (t.steps + n) }

-- A next from place p costs the steps of the walk from the object there.
abbrev pub booked_from : Setup → ℕ → Tally → Spot → Tally
booked_from s p t past = t
booked_from s p t (on v) = booked (at s (p + 1)) (walk s v).steps t

abbrev pub next_tally : Setup → ℕ → Tally → Tally
next_tally s p t = booked_from s p t (at s p)

abbrev pub cleared_by : Tally → Result Code Refusal → Tally
cleared_by t (Err e) = t
cleared_by t (Ok w) = cleared

abbrev pub resume_tally : ℕ → Setup → List ℕ → Tally → Tally
resume_tally job s bytes t = cleared_by t (opened job s bytes)
