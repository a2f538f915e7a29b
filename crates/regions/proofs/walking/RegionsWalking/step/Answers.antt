use Rattle.std.proofs.Common.{arith, rules}
use Rattle.regions.proofs.Coded.{stepped_vacant, stepped_filled, set_fits}
use Rattle.regions.proofs.walking.RegionsWalking.step.Goals as goal

pub returns-then-not-leads_on-clause-moved : goal.returns-then-not-leads_on-clause-moved
returns-then-not-leads_on-clause-moved c =
    let r = c.args.self.now in
    stepped_vacant r.map.n r.map.rows r.set (set_fits r) c.args.slot (omega arith) c.if-not-leads_on.ensures

pub returns-clause-moved : goal.returns-clause-moved
returns-clause-moved c =
    let r = c.args.self.now in
    rw c.turned-set.ensures
    (stepped_filled r.map.n r.map.rows r.set (set_fits r) c.args.slot (omega arith) c.if-not-leads_on.ensures)

pub returns-then-slot-width-clause-moved : goal.returns-then-slot-width-clause-moved
returns-then-slot-width-clause-moved c = search rules
