use Rattle.std.proofs.Common.{rules}
use Rattle.pages.proofs.pager.lining.is_printed.Goals as goal

pub returns : goal.returns
returns c = search rules
