use Rattle.std.proofs.Common.{rules}
use Rattle.engine.proofs.tally.Tally.cleared.Goals as goal

pub returns : goal.returns
returns c = search rules
