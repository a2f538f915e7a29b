-- Where a census stands.
use Rattle.std.specs.Prelude.{◌≡◌, ℕ, ◌+◌, ◌≤◌}
use Rattle.oracle.specs.Laws.{Object, Lawful}
use Rattle.oracle.specs.Places.{at, place, objects}
use Rattle.oracle.specs.Setup.{Code, Setup}
use Rattle.oracle.specs.Walk.{Spot, on, past}
use Rattle.engine.specs.declared.rest.Rest.{Rest}
use Rattle.engine.specs.declared.rest.Rest.TheVariants.{Standing, Past}

-- The object that is current, and a place of the list; the place past the end is one more than the
-- number of objects. The object stands beside the place, since past the end, where no place names one,
-- the oracle's is held to be the root.
pub record Stand : Type 0 where
  pub current : Code
  pub place : ℕ

-- The object that is current at a spot: past the end it is the root.
abbrev pub object_at : Setup → Spot → Code
object_at s (on w) = w
object_at s past = s.root

-- Standing at place p of the list.
abbrev pub standing_at : Setup → ℕ → Stand
standing_at s p = record { current = object_at s (at s p); place = p }

-- How an oracle at v stands: the place is the one of v, unless the census is past the end.
abbrev pub stand_of : Setup → Rest → Code → Stand
stand_of s Standing v = record { current = v; place = place s v }
stand_of s Past v = record { current = v; place = objects s + 1 }

-- What holds wherever a census stands: its set-up is lawful, and its place is one of the list, with
-- the current object there, or the one past the end.
pub record Placed (s : Setup) (here : Stand) : Type 0 where
  pub lawful : Lawful s
  pub object : Object s here.current
  pub from : 1 ≤ here.place
  pub upto : here.place ≤ objects s + 1
  pub current : here.place ≤ objects s → at s here.place ≡ on here.current
