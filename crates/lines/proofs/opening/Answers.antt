use Rattle.std.proofs.Common.{rules}
use Rattle.lines.proofs.opening.Goals as goal

pub returns-then-whole-clause-bytes : goal.returns-then-whole-clause-bytes
returns-then-whole-clause-bytes c = search rules

pub returns-else-whole-clause-bytes : goal.returns-else-whole-clause-bytes
returns-else-whole-clause-bytes c = search rules
