-- What a walk answers and leaves.
use Rattle.std.specs.Prelude.{ℕ, zero, suc, ◌+◌, min, Some, None, Option}
use Rattle.oracle.specs.Places.{place, objects}
use Rattle.oracle.specs.Setup.{Code, Setup, Slot, vacant, filled}
use Rattle.oracle.specs.Walk.{Spot, on, past}
use Rattle.oracle.specs.declared.outcome.Reached.{Reached}
use Rattle.oracle.specs.declared.outcome.Reached.TheVariants.{Child, End}

-- The greatest count of 64 bits.
abbrev pub ceiling : ℕ
ceiling = 18446744073709551615

-- A count that stays at the ceiling once it is there.
abbrev pub counted : ℕ → ℕ
counted n = min n ceiling

-- A count that goes on n times.
unfoldable pub ticks : (ℕ → ℕ) → ℕ → ℕ → ℕ
ticks tick zero x = x
ticks tick (suc n) x = tick (ticks tick n x)

-- The answer of a walk that stops at a spot, and the current object then.
abbrev pub rested : Setup → Spot → Reached × Code
rested s (on w) = (Child, w)
rested s past = (End, s.root)

-- The place that a walk has led to: that of the child, or the one past the end.
abbrev pub landing : Setup → Reached → Code → ℕ
landing s Child w = place s w
landing s End w = objects s + 1

-- Crossing from v into a slot: the return slot if it is filled, and the current object then.
abbrev pub across : Code → Slot → Option ℕ × Code
across v vacant = (None, v)
across v (filled w k) = (Some k, w)
