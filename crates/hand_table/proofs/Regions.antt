-- The rows of regions, computed.
use Rattle.std.proofs.Common.{◌≡◌, ℕ, Some, [], ◌∷◌, replicate, refl}
use lib.Count.{count_trailing_zeros}
use Rattle.digits.specs.Bits.{bit, count}
use Rattle.maps.specs.Touch.{bare, with_pair}
use Rattle.sheets.specs.Written.{table_after}
use Rattle.oracle.specs.Counting.{total, filled_count, filled_from}
use Rattle.oracle.specs.Home.{homeward}
use Rattle.oracle.specs.Listing.{child_before, children_from, children, listed, list_of}
use Rattle.oracle.specs.Setup.{filled}
use Rattle.oracle.specs.Sight.{sight_of, seen}
use Rattle.oracle.specs.Walk.{passing, scan, onward, rise, walk_from}
use Rattle.masks.specs.Codes.{bytes, number}
use Rattle.masks.specs.Pick.{pick}
use Rattle.connected.specs.Connected.{reached, is_connected}
use Rattle.connected.specs.Sets.{is_set, set_slot, can_leave, set_home, set_rank}
use Rattle.cap.specs.Capped.{kept}
use Rattle.hand_table.specs.Table.{Holds, regions, r_three, r_three_capped, r_one, r_ten}

-- all that they are computed with
computed : ℕ
unfolding count_trailing_zeros bit count bare with_pair table_after total filled_count filled_from homeward child_before children_from children listed list_of sight_of seen passing scan onward rise walk_from bytes number pick reached is_connected is_set set_slot can_leave set_home set_rank kept
computed = 0

pub one_stands : Holds r_one
unfolding computed
one_stands = record { list_is = refl; ranks_are = refl; H-is = refl; N-is = refl; D-is = refl; F-is = refl; steps_are = refl }

pub capped_stands : Holds r_three_capped
unfolding computed
capped_stands = record { list_is = refl; ranks_are = refl; H-is = refl; N-is = refl; D-is = refl; F-is = refl; steps_are = refl }

pub three_stands : Holds r_three
unfolding computed
three_stands = record { list_is = refl; ranks_are = refl; H-is = refl; N-is = refl; D-is = refl; F-is = refl; steps_are = refl }

pub ten_stands : Holds r_ten
unfolding computed
ten_stands = record { list_is = refl; ranks_are = refl; H-is = refl; N-is = refl; D-is = refl; F-is = refl; steps_are = refl }

pub last_region : (regions 64 []).slot (replicate 8 0) 63 ≡ filled (0 ∷ 0 ∷ 0 ∷ 0 ∷ 0 ∷ 0 ∷ 0 ∷ 128 ∷ []) 63
unfolding computed
last_region = refl

pub last_region_home : (regions 64 []).home (0 ∷ 0 ∷ 0 ∷ 0 ∷ 0 ∷ 0 ∷ 0 ∷ 128 ∷ []) ≡ Some 63
unfolding computed
last_region_home = refl
