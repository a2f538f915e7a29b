use Rattle.std.proofs.Common.{refl, rules, subst}
use Rattle.pages.proofs.Turned.{pages_join}
use Rattle.printouts.proofs.Accepted.{asked_drawable}
use Rattle.printouts.proofs.sheet_pager.SheetPager.of_sheet.Goals as goal
use Rattle.printouts.specs.Printed.{WholeOf, sheet_lines}

pub of_plan-requires : goal.of_plan-requires
of_plan-requires c = asked_drawable c.args.sheet.now _ (c.in-Ok.ensures.accepting.only _ refl)

pub returns-in-Ok-clause-whole : goal.returns-in-Ok-clause-whole
returns-in-Ok-clause-whole c = subst WholeOf c.in-Ok.ensures.value c.of_plan.ensures.whole

pub returns-in-Ok-clause-pages : goal.returns-in-Ok-clause-pages
returns-in-Ok-clause-pages c limits = pages_join limits (sheet_lines c.args.sheet.now)

pub returns-in-Err-clause-pages : goal.returns-in-Err-clause-pages
returns-in-Err-clause-pages c limits = pages_join limits (sheet_lines c.args.sheet.now)

pub returns-in-Err-clause-lines : goal.returns-in-Err-clause-lines
returns-in-Err-clause-lines c = search rules
