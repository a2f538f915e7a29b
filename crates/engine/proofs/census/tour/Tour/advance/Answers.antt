use Rattle.engine.proofs.Called.{past_called}
use Rattle.engine.proofs.census.tour.Tour.advance.Goals as goal

pub returns-in_err-here-clause-called : goal.returns-in_err-here-clause-called
returns-in_err-here-clause-called g c = past_called g.O.Walking.tick _ _ _ _ c.in_err-here.ensures.0
