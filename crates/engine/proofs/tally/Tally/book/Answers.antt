use Rattle.std.proofs.Common.{rules}
use Rattle.engine.proofs.tally.Tally.book.Goals as goal

pub returns-in-Child-clause-steps : goal.returns-in-Child-clause-steps
returns-in-Child-clause-steps c = search rules

pub returns-in-End-clause-steps : goal.returns-in-End-clause-steps
returns-in-End-clause-steps c = search rules
