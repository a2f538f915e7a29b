-- The list of a set-up.
use Rattle.std.specs.Prelude.{ℕ, zero, suc, ◌+◌, List, [], ◌∷◌}
use Rattle.std.specs.List.{flat_map}
use Rattle.oracle.specs.Setup.{Code, Setup}
use Rattle.oracle.specs.Sight.{Sight, nothing, other, child, seen}

-- A child in sight, before other children.
unfoldable pub child_before : Sight → List Code → List Code
child_before nothing ws = ws
child_before other ws = ws
child_before (child w) ws = w ∷ ws

-- The children of v by n slots from slot j on, by ascending slot.
unfoldable pub children_from : Setup → Code → ℕ → ℕ → List Code
children_from s v j zero = []
children_from s v j (suc n) = child_before (seen s v j) (children_from s v (j + 1) n)

unfoldable pub children : Setup → Code → List Code
children s v = children_from s v 0 s.width

-- v, followed by the lists of its children, down to a depth.
unfoldable pub listed : ℕ → Setup → Code → List Code
listed zero s v = []
listed (suc depth) s v = v ∷ flat_map (listed depth s) (children s v)

-- The list of v. No depth exceeds the height, since a child has a higher rank than its parent.
unfoldable pub list_of : Setup → Code → List Code
list_of s v = listed (suc s.height) s v

abbrev pub listing : Setup → List Code
listing s = list_of s s.root
