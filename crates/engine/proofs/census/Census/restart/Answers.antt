use Rattle.std.proofs.Common.{rules}
use Rattle.engine.proofs.Called.{home_called}
use Rattle.engine.proofs.Moves.{begins}
use Rattle.engine.proofs.census.Census.restart.Goals as goal

pub returns-clause-begun : goal.returns-clause-begun
returns-clause-begun g c = search (rules, begins)

pub returns-clause-called : goal.returns-clause-called
returns-clause-called g c =
    rw (← c.self.view_is) (home_called g.O.Walking c.self.inside.tour _ c.begin.ensures.called)
