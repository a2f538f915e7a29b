use Rattle.std.proofs.Common.{rules}
use Rattle.engine.proofs.census.tour.Tour.take_block.Goals as goal

pub returns-clause-tally : goal.returns-clause-tally
returns-clause-tally g c = search rules
