use Rattle.std.proofs.Common.{rules}
use Rattle.pages.proofs.pager.Pager.page.Goals as goal

pub returns-clause-paged : goal.returns-clause-paged
returns-clause-paged g c = search rules
