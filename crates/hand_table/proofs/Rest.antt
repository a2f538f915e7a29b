-- The numbers below the table, computed.
use Rattle.std.proofs.Common.{◌≡◌, [], ◌∷◌, drop, refl}
use Rattle.masks.specs.Codes.{bytes, code}
use Rattle.marks.specs.Layout.{weigh, block}
use Rattle.pairs.specs.Pairs.{pair_count, number}
use Rattle.hand_table.specs.Table.{in_a_row}

pub pair_stands : number 1 3 ≡ 4
unfolding pair_count number
pair_stands = refl

pub last_pair_stands : number 22 23 ≡ 275
unfolding pair_count number
last_pair_stands = refl

pub check_stands : drop 508 (block 7 in_a_row (code 3)) ≡ 87 ∷ 0 ∷ 0 ∷ 0 ∷ []
unfolding bytes weigh
check_stands = refl
