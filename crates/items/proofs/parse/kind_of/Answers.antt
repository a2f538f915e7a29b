use Rattle.std.proofs.Common.{rules}
use Rattle.items.proofs.parse.kind_of.Goals as goal

pub returns-in-45 : goal.returns-in-45
returns-in-45 c = search rules
