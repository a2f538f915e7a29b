use Rattle.oracle.proofs.Complete.{numbered}
use Rattle.oracle.proofs.theory.numbers_stands.Goals as goal

pub returns : goal.returns
returns c = numbered
