use Rattle.std.proofs.Common.{rules}
use Rattle.regions.proofs.walking.RegionsWalking.height.Goals as goal

pub returns : goal.returns
returns c = search rules
