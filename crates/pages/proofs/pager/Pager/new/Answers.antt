use Rattle.pages.proofs.Places.{begins_left}
use Rattle.pages.proofs.pager.Pager.new.Goals as goal

pub returns-clause-lines : goal.returns-clause-lines
returns-clause-lines g c =
    let W = g.O.Walking in
    begins_left (W.setup c.args.oracle) (W.setup c.new.result.oracle) c.new.result.view c.args.most c.new.ensures.setup c.new.ensures.begun
