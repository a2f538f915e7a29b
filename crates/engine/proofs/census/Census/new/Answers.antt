use Rattle.std.proofs.Common.{rules}
use Rattle.engine.proofs.census.Census.new.Goals as goal

pub returns-clause-begun : goal.returns-clause-begun
returns-clause-begun g c = search rules

pub returns-clause-root : goal.returns-clause-root
returns-clause-root g c = search rules
