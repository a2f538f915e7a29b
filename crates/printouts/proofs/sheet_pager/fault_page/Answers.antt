use Rattle.std.proofs.Common.{rules, arith}
use Rattle.std.proofs.lemmas.Grind.{common_steps}
use Rattle.printouts.proofs.sheet_pager.fault_page.Goals as goal

pub returns-clause-paged : goal.returns-clause-paged
returns-clause-paged c = grind (arith, common_steps)

pub returns-clause-succeeds : goal.returns-clause-succeeds
returns-clause-succeeds c = search rules
