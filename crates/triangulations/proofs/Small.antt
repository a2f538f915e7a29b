-- The censuses of the polygons with three, four and five corners, computed: the codes in the order of the
-- list, and the steps of the walks of all places.
use Rattle.std.proofs.Common.{◌≡◌, ℕ, ◌+◌, ◌*◌, true, false, [], ◌∷◌, replicate, refl}
use Rattle.digits.specs.Bits.{bit, count}
use Rattle.oracle.specs.Counting.{total, filled_count, filled_from}
use Rattle.oracle.specs.Listing.{child_before, children_from, children, listed, list_of, listing}
use Rattle.oracle.specs.Places.{objects, filled_slots}
use Rattle.oracle.specs.Setup.{Code}
use Rattle.oracle.specs.Sight.{sight_of, seen}
use Rattle.masks.specs.Pick.{pick}
use Rattle.pairs.specs.Pairs.{pair_count, number, pairs_below, corners_of}
use Rattle.triangulations.specs.Census.{polygon, slot_of, slot_to, is_object}
use Rattle.masks.specs.Codes.{all_bytes}
use Rattle.triangulations.specs.Codes.{members, byte_of, code_of, is_row}
use Rattle.triangulations.specs.Moves.{edge, joined, triangle, between, beyond, inside, outside, pair_of, replacement, exchanged, leads_home, home_slot, off_corner, rank_of, fan}
use Rattle.triangulations.specs.Objects.{uncrossed, belongs, placed, is_triangulation}
use Rattle.triangulations.specs.Polygon.{is_side, is_diagonal, crosses}
use Rattle.triangulations.specs.Search.{every}

-- a code whose first two bytes are a and b
abbrev code : ℕ → ℕ → Code
code a b = a ∷ b ∷ replicate 33 0

-- all that the censuses compute with
computed : ℕ
unfolding pair_count number pairs_below corners_of bit count slot_of slot_to members byte_of code_of edge joined triangle between beyond inside outside pair_of replacement exchanged leads_home home_slot off_corner rank_of fan is_side is_diagonal crosses pick child_before children_from children listed list_of sight_of seen total filled_count filled_from
computed = 0

-- {}
three : listing (polygon 3) ≡ code 0 0 ∷ []
unfolding computed
three = refl

-- {1}, {4}
four : listing (polygon 4) ≡ code 2 0 ∷ code 16 0 ∷ []
unfolding computed
four = refl

-- {1, 3}, {3, 4}, {4, 7}, {1, 8}, {7, 8}
five : listing (polygon 5) ≡ code 10 0 ∷ code 24 0 ∷ code 144 0 ∷ code 2 1 ∷ code 128 1 ∷ []
unfolding computed
five = refl

steps : (objects (polygon 3) * 3 + filled_slots (polygon 3) ≡ 3) × (objects (polygon 4) * 6 + filled_slots (polygon 4) ≡ 14) × (objects (polygon 5) * 10 + filled_slots (polygon 5) ≡ 60)
unfolding computed
steps = (refl, refl, refl)

-- the test tells triangulations from other rows
tested : ((polygon 4).object (code 16 0) ≡ true) × ((polygon 4).object (code 18 0) ≡ false) × ((polygon 4).object (code 0 0) ≡ false) × ((polygon 4).object (code 3 0) ≡ false) × ((polygon 5).object (code 128 1) ≡ true)
unfolding computed is_object all_bytes is_row uncrossed belongs placed is_triangulation every
tested = (refl, refl, refl, refl, refl)
