use Rattle.std.proofs.Common.{rules}
use Rattle.sheets.proofs.plan.Subject+Map.pairs.Goals as goal

pub returns-in-Regions : goal.returns-in-Regions
returns-in-Regions c = search rules
