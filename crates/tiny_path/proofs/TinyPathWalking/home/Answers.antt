use Rattle.std.proofs.Common.{rules}
use Rattle.tiny_path.proofs.TinyPathWalking.home.Goals as goal

pub returns-else-self-eq0 : goal.returns-else-self-eq0
returns-else-self-eq0 c = search rules
