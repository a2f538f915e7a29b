use Rattle.std.proofs.Common.{rules}
use Rattle.polygon.proofs.walking.PolygonWalking.height.Goals as goal

pub returns : goal.returns
returns c = search rules
