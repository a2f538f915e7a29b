-- What a slot of an object leads to, as the list and the walk both judge it.
use Rattle.std.specs.Prelude.{ℕ, Bool, false, cond, Some, None, Option, ◌==◌}
use Rattle.oracle.specs.Setup.{Code, Setup, Slot, vacant, filled}

-- Nothing; a neighbour that is no child by this slot; a child.
pub data Sight : Type 0 where
  nothing : Sight
  other : Sight
  child : Code → Sight

-- Whether k is this home slot.
abbrev pub is_home : Option ℕ → ℕ → Bool
is_home None k = false
is_home (Some h) k = h == k

unfoldable pub sight_of : Setup → Slot → Sight
sight_of s vacant = nothing
sight_of s (filled w k) = cond (is_home (s.home w) k) (child w) other

-- w is a child of v by slot j if that slot is filled with w and the return slot is the home slot of
-- w. Comparing the parent of w with v instead would count a child twice where two slots lead to it.
unfoldable pub seen : Setup → Code → ℕ → Sight
seen s v j = sight_of s (s.slot v j)
