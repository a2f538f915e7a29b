use Rattle.std.proofs.Common.{rules}
use Rattle.regions.proofs.coding.RegionsCoded.size.Goals as goal

pub returns : goal.returns
returns c = search rules
