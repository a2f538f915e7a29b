-- The rows of polygons, computed.
use Rattle.std.proofs.Common.{◌≡◌, ℕ, Some, ◌∷◌, replicate, refl}
use Rattle.digits.specs.Bits.{bit, count}
use Rattle.oracle.specs.Counting.{total, filled_count, filled_from}
use Rattle.oracle.specs.Home.{homeward}
use Rattle.oracle.specs.Listing.{child_before, children_from, children, listed, list_of}
use Rattle.oracle.specs.Setup.{filled}
use Rattle.oracle.specs.Sight.{sight_of, seen}
use Rattle.oracle.specs.Walk.{passing, scan, onward, rise, walk_from}
use Rattle.masks.specs.Pick.{pick}
use Rattle.pairs.specs.Pairs.{pair_count, number, pairs_below, corners_of}
use Rattle.triangulations.specs.Census.{polygon, slot_of, slot_to}
use Rattle.triangulations.specs.Codes.{members, byte_of, code_of}
use Rattle.triangulations.specs.Moves.{edge, joined, triangle, between, beyond, inside, outside, pair_of, replacement, exchanged, leads_home, home_slot, off_corner, rank_of, fan}
use Rattle.triangulations.specs.Polygon.{is_side, is_diagonal}
use Rattle.hand_table.specs.Table.{Holds, p_three, p_four, p_five}

-- all that they are computed with
computed : ℕ
unfolding bit count total filled_count filled_from homeward child_before children_from children listed list_of sight_of seen passing scan onward rise walk_from pick pair_count number pairs_below corners_of slot_of slot_to members byte_of code_of edge joined triangle between beyond inside outside pair_of replacement exchanged leads_home home_slot off_corner rank_of fan is_side is_diagonal
computed = 0

pub three_stands : Holds p_three
unfolding computed
three_stands = record { list_is = refl; ranks_are = refl; H-is = refl; N-is = refl; D-is = refl; F-is = refl; steps_are = refl }

pub four_stands : Holds p_four
unfolding computed
four_stands = record { list_is = refl; ranks_are = refl; H-is = refl; N-is = refl; D-is = refl; F-is = refl; steps_are = refl }

pub five_stands : Holds p_five
unfolding computed
five_stands = record { list_is = refl; ranks_are = refl; H-is = refl; N-is = refl; D-is = refl; F-is = refl; steps_are = refl }

pub nine_root : (polygon 9).root ≡ 74 ∷ 132 ∷ 32 ∷ replicate 32 0
unfolding computed
nine_root = refl

pub nine_slot : (polygon 9).slot (74 ∷ 132 ∷ 32 ∷ replicate 32 0) 21 ≡ filled (74 ∷ 132 ∷ 0 ∷ 0 ∷ 4 ∷ replicate 30 0) 34
unfolding computed
nine_slot = refl

pub nine_home : (polygon 9).home (74 ∷ 132 ∷ 0 ∷ 0 ∷ 4 ∷ replicate 30 0) ≡ Some 34
unfolding computed
nine_home = refl

pub nine_rank : (polygon 9).rank (74 ∷ 132 ∷ 0 ∷ 0 ∷ 4 ∷ replicate 30 0) ≡ 1
unfolding computed
nine_rank = refl

pub most_root : (polygon 24).root
    ≡ 74 ∷ 132 ∷ 32 ∷ 16 ∷ 16 ∷ 32 ∷ 128 ∷ 0 ∷ 4 ∷ 64 ∷ 0 ∷ 8 ∷ 0 ∷ 2 ∷ 0 ∷ 1 ∷ 0 ∷ 1 ∷ 0 ∷ 2 ∷ 0 ∷ 8 ∷ 0 ∷ 64 ∷ 0 ∷ 0 ∷ 4 ∷ 0 ∷ 128 ∷ replicate 6 0
unfolding computed
most_root = refl
