use Rattle.engine.proofs.Resumes.{resumes}
use Rattle.engine.proofs.census.Census.resume.Goals as goal

pub returns-clause-resumed : goal.returns-clause-resumed
returns-clause-resumed g c =
    let e = c.take_block.ensures in
    rw (← c.self.view_is)
    (resumes g.O.Walking c.self.inside.tour c.take_block.new.self c.args.job c.args.block.now c.take_block.result c.self.invariant e.sound e.setup e.rest e.tally e.moved)
