use Rattle.std.proofs.Common.{arith}
use Rattle.pairs.specs.Pairs.{number}
use Rattle.pairs.proofs.pair_number.Goals as goal

pub returns : goal.returns
unfolding number
returns c = omega (arith, c.pair_total.ensures.value)
