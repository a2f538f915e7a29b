-- The way home.
use Rattle.std.specs.Prelude.{ℕ, zero, suc, Some, None}
use Rattle.oracle.specs.Setup.{Code, Setup, Slot, vacant, filled}

-- What the home slot of v holds: the parent and the slot of the parent that leads to v; nothing at
-- the root.
unfoldable pub homeward : Setup → Code → Slot
homeward s v = elim (s.home v) [ None ↦ vacant | Some h ↦ s.slot v h ]

-- Where a step into this slot leads, from v.
unfoldable pub neighbour_or : Code → Slot → Code
neighbour_or v vacant = v
neighbour_or v (filled u i) = u

-- The object reached from v by n steps home; at the root it stays.
unfoldable pub ancestor : Setup → ℕ → Code → Code
ancestor s zero v = v
ancestor s (suc n) v = ancestor s n (neighbour_or v (homeward s v))

-- The step into this slot and those that follow it, counted; none if it is vacant.
unfoldable pub climbed : Slot → (Code → ℕ) → ℕ
climbed vacant next = 0
climbed (filled u i) next = suc (next u)

-- The steps home from v, counted up to a bound.
unfoldable pub climb : ℕ → Setup → Code → ℕ
climb zero s v = 0
climb (suc most) s v = climbed (homeward s v) (climb most s)

-- How many steps home lead from v to the root. Each lowers the rank, so that the rank bounds how many there are.
unfoldable pub steps_home : Setup → Code → ℕ
steps_home s v = climb (s.rank v) s v
