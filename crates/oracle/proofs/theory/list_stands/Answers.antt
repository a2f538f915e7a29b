use Rattle.oracle.proofs.Complete.{complete}
use Rattle.oracle.proofs.theory.list_stands.Goals as goal

pub returns : goal.returns
returns c = complete
