use Rattle.std.proofs.Common.{rules}
use Rattle.lines.proofs.verdict.verdict_line.Goals as goal

pub returns-in-Ok : goal.returns-in-Ok
returns-in-Ok c = search rules

pub returns-in-Err : goal.returns-in-Err
returns-in-Err c = search rules
