use Rattle.std.proofs.Common.{rules}
use Rattle.refusals.proofs.RefusalDisplay.fmt.Goals as goal

pub returns-in-SheetShort-clause-writes : goal.returns-in-SheetShort-clause-writes
returns-in-SheetShort-clause-writes g c = search rules
