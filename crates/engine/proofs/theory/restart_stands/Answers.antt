use Rattle.engine.proofs.Returns.{restart_counts}
use Rattle.engine.proofs.theory.restart_stands.Goals as goal

pub returns : goal.returns
returns c = restart_counts
