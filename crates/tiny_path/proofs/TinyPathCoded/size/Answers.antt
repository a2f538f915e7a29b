use Rattle.std.proofs.Common.{rules}
use Rattle.tiny_path.proofs.TinyPathCoded.size.Goals as goal

pub returns : goal.returns
returns c = search rules
