use lib.Bits.{or_zero_r}
use Rattle.std.proofs.Common.{rules}
use Rattle.digits.proofs.with.Goals as goal

pub returns : goal.returns
returns c = search (rules, or_zero_r)
