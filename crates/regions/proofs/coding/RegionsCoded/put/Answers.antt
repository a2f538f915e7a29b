use Rattle.std.proofs.Common.{rules}
use Rattle.regions.proofs.coding.RegionsCoded.put.Goals as goal

pub returns : goal.returns
returns c = search rules
