use Rattle.std.proofs.Common.{rules}
use Rattle.engine.proofs.census.tour.Tour.begin.Goals as goal

pub returns-clause-called : goal.returns-clause-called
returns-clause-called g c = search rules
