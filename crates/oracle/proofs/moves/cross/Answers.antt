use Rattle.std.proofs.Common.{rules}
use Rattle.oracle.proofs.moves.cross.Goals as goal

pub returns-clause-counted : goal.returns-clause-counted
returns-clause-counted g c = search rules
