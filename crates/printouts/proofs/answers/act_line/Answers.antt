use Rattle.std.proofs.Common.{rules}
use Rattle.printouts.proofs.answers.act_line.Goals as goal

pub returns-in-Read-Ok-Done : goal.returns-in-Read-Ok-Done
returns-in-Read-Ok-Done c = search rules

pub returns-in_default-Ok-End : goal.returns-in_default-Ok-End
returns-in_default-Ok-End c = search rules
