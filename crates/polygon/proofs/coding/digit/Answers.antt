use Rattle.std.proofs.Common.{◌/◌, ◌%◌, get_or}
use Rattle.digits.proofs.Digits.{bit_test}
use Rattle.triangulations.specs.Codes.{members}
use Rattle.polygon.proofs.coding.digit.Goals as goal

pub returns : goal.returns
unfolding members
returns c = bit_test (get_or c.args.row.now (c.args.e / 8) 0) (c.args.e % 8)
