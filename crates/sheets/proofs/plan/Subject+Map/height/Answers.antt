use Rattle.std.proofs.Common.{rules}
use Rattle.sheets.proofs.plan.Subject+Map.height.Goals as goal

pub returns-in-Polygon : goal.returns-in-Polygon
returns-in-Polygon c = search rules
