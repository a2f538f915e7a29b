use Rattle.std.proofs.Common.{rules}
use Rattle.polygon.proofs.coding.PolygonCoded.size.Goals as goal

pub returns : goal.returns
returns c = search rules
