use Rattle.std.proofs.Common.{rules}
use Rattle.maps.proofs.draft.Draft.seal.Goals as goal

pub returns : goal.returns
returns c = search rules
