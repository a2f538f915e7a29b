-- The places of the list, from 1, and its numbers.
use Rattle.std.specs.Prelude.{ℕ, zero, suc, cond, List, [], ◌∷◌, length, drop}
use Rattle.std.specs.Str.{bytes_eq}
use Rattle.oracle.specs.Setup.{Code, Setup}
use Rattle.oracle.specs.Counting.{total, filled_of}
use Rattle.oracle.specs.Listing.{listing}
use Rattle.oracle.specs.Walk.{Spot, on, past}

-- the first of a list, or past its end
unfoldable pub first_of : List Code → Spot
first_of [] = past
first_of (x ∷ xs) = on x

-- what stands at a place of a list; nothing stands at place 0
unfoldable pub at_place : List Code → ℕ → Spot
at_place xs zero = past
at_place xs (suc p) = first_of (drop p xs)

-- the first place of x in a list, or the one past its end
unfoldable pub place_in : Code → List Code → ℕ
place_in x [] = 1
place_in x (y ∷ ys) = cond (bytes_eq x y) 1 (suc (place_in x ys))

abbrev pub at : Setup → ℕ → Spot
at s p = at_place (listing s) p

abbrev pub place : Setup → Code → ℕ
place s v = place_in v (listing s)

-- N, the number of objects
abbrev pub objects : Setup → ℕ
objects s = length (listing s)

-- F, the number of filled slots of all objects
abbrev pub filled_slots : Setup → ℕ
filled_slots s = total (filled_of s) (listing s)
