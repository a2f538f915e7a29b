use Rattle.oracle.proofs.WalkRules.{walk_rules}
use Rattle.oracle.proofs.theory.walk_stands.Goals as goal

pub returns : goal.returns
returns c = walk_rules
