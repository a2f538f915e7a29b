use Rattle.std.proofs.Common.{rules}
use Rattle.tiny_path.proofs.TinyPathCoded.take.Goals as goal

pub returns-in_default-2-clause-moved : goal.returns-in_default-2-clause-moved
returns-in_default-2-clause-moved c = search rules
