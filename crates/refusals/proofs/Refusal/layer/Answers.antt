use Rattle.std.proofs.Common.{rules}
use Rattle.refusals.proofs.Refusal.layer.Goals as goal

pub returns-in-LineOrder : goal.returns-in-LineOrder
returns-in-LineOrder c = search rules
