use Rattle.std.proofs.Common.{rules}
use Rattle.marks.proofs.head.head.Goals as goal

pub returns : goal.returns
returns g c = search rules
