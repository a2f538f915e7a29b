use Rattle.engine.proofs.Called.{next_called}
use Rattle.engine.proofs.Moves.{next_moves}
use Rattle.engine.proofs.census.Census.next.Goals as goal

pub returns-clause-next : goal.returns-clause-next
returns-clause-next g c =
    let e = c.advance.ensures in
    rw (← c.self.view_is)
    (next_moves g.O.Walking c.self.inside.tour c.advance.new.self c.advance.result c.self.invariant e.setup e.advanced e.booked)

pub returns-clause-called : goal.returns-clause-called
returns-clause-called g c =
    rw (← c.self.view_is)
    (next_called g.O.Walking c.self.inside.tour _ c.self.invariant c.advance.ensures.called)
