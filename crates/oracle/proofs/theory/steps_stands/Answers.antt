use Rattle.oracle.proofs.Counts.{steps_counted}
use Rattle.oracle.proofs.theory.steps_stands.Goals as goal

pub returns : goal.returns
returns c = steps_counted
