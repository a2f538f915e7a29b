use Rattle.std.proofs.Common.{rules}
use Rattle.digits.proofs.has.Goals as goal

pub returns : goal.returns
returns c = search rules
