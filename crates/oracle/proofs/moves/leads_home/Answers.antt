use Rattle.std.proofs.Common.{rules}
use Rattle.oracle.proofs.moves.leads_home.Goals as goal

pub returns : goal.returns
returns g c = search rules
