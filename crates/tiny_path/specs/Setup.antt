-- A path of three objects, 0, 1 and 2, with two edges between neighbours. Slots 0 and 1 of an object
-- lead down and slots 2 and 3 up, so that each edge joins slot j below to slot j + 2 above. The home
-- slot is 1: of the two slots that lead up to a child only slot 3 makes it one.
use Rattle.std.specs.Prelude.{ℕ, ◌+◌, ◌-◌, Bool, false, cond, [], ◌∷◌, Some, None, Option, ◌==◌, nat_lt, slice_index}
use Rattle.oracle.specs.Setup.{Code, Setup, Slot, vacant, filled}

-- the code of an object is its number
abbrev pub code : ℕ → Code
code i = i ∷ []

abbrev pub number : Code → ℕ
number v = slice_index v 0

abbrev pub is_object : Code → Bool
is_object [] = false
is_object (i ∷ []) = nat_lt i 3
is_object (i ∷ k ∷ ks) = false

abbrev pub slot_of : ℕ → ℕ → Slot
slot_of i j =
    cond (nat_lt j 2) (cond (nat_lt 0 i) (filled (code (i - 1)) (j + 2)) vacant) (cond (nat_lt i 2) (filled (code (i + 1)) (j - 2)) vacant)

abbrev pub home_of : ℕ → Option ℕ
home_of i = cond (i == 0) None (Some 1)

abbrev pub path : Setup
path =
    record {
      width = 4;
      size = 1;
      height = 2;
      root = code 0;
      object = is_object;
      slot = λ v j. slot_of (number v) j;
      home = λ v. home_of (number v);
      rank = number;
    }
