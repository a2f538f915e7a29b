-- The hand table.
use Rattle.hand_table.specs.Table.{HandTable, CodesHold}
use Rattle.hand_table.proofs.Regions as regions
use Rattle.hand_table.proofs.Polygons as polygons
use Rattle.hand_table.proofs.Rest.{pair_stands, last_pair_stands, check_stands}

codes_hold : CodesHold
codes_hold =
    record {
      last_region = regions.last_region;
      last_region_home = regions.last_region_home;
      nine_root = polygons.nine_root;
      nine_slot = polygons.nine_slot;
      nine_home = polygons.nine_home;
      nine_rank = polygons.nine_rank;
      most_root = polygons.most_root;
    }

pub hand_table : HandTable
hand_table = (
  (
    regions.three_stands,
    (regions.capped_stands, (regions.one_stands, (regions.ten_stands, (polygons.three_stands, (polygons.four_stands, (polygons.five_stands, tt)))))),
  ),
  codes_hold,
  pair_stands,
  last_pair_stands,
  check_stands,
)
