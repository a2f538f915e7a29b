use Rattle.std.proofs.Common.{rules}
use Rattle.printouts.proofs.sheet_pager.SheetPager.page.Goals as goal

pub returns-in-Polygon-clause-paged : goal.returns-in-Polygon-clause-paged
returns-in-Polygon-clause-paged c = search rules

pub returns-in-Polygon-clause-succeeds : goal.returns-in-Polygon-clause-succeeds
returns-in-Polygon-clause-succeeds c = search rules
