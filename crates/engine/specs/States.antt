-- The acts by where a census rests and by its oracle's current object, before places come in.
use Rattle.std.specs.Prelude.{ℕ, ◌+◌, Some, None, Ok, Err, Option, Result}
use Rattle.refusals.specs.declared.Refusal.{Refusal}
use Rattle.refusals.specs.declared.Refusal.TheVariants.{PastEnd}
use Rattle.oracle.specs.Outcomes.{counted}
use Rattle.oracle.specs.Setup.{Code, Setup}
use Rattle.oracle.specs.Walk.{Spot, on, past, walk}
use Rattle.oracle.specs.declared.outcome.Reached.{Reached}
use Rattle.oracle.specs.declared.outcome.Reached.TheVariants.{Child, End}
use Rattle.engine.specs.Tallies.{cleared, booked}
use Rattle.engine.specs.declared.rest.Rest.{Rest}
use Rattle.engine.specs.declared.rest.Rest.TheVariants.{Standing, Past}
use Rattle.engine.specs.declared.tally.Tally.{Tally}

abbrev pub spot_of : Rest → Code → Spot
spot_of Standing v = on v
spot_of Past v = past

-- The objects in a tally after a walk.
abbrev pub visited : Reached → ℕ → ℕ
visited Child n = counted (n + 1)
visited End n = n

-- A walk that stops at a spot: the rank there, where the census rests then, and the current object.
abbrev pub advanced : Setup → Spot → Option ℕ × Rest × Code
advanced s (on w) = (Some (s.rank w), Standing, w)
advanced s past = (None, Past, s.root)

abbrev pub granted : Option ℕ × Rest × Code → Result (Option ℕ) Refusal × Rest × Code
granted a = (Ok a.0, a.1, a.2)

-- A next, and the tally after it.
abbrev pub next_state : Setup → Rest → Code → Result (Option ℕ) Refusal × Rest × Code
next_state s Past v = (Err PastEnd, Past, v)
next_state s Standing v = granted (advanced s (walk s v).stop)

abbrev pub next_booked : Setup → Rest → Code → Tally → Tally
next_booked s Past v t = t
next_booked s Standing v t = booked (walk s v).stop (walk s v).steps t

-- A resume with this answer: where the census rests, and the tally after it.
abbrev pub rest_after : Result (Unit {0}) Refusal → Rest → Rest
rest_after (Ok u) rest = Standing
rest_after (Err e) rest = rest

abbrev pub tally_after : Result (Unit {0}) Refusal → Tally → Tally
tally_after (Ok u) t = cleared
tally_after (Err e) t = t
