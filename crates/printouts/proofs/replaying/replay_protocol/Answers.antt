use Rattle.std.proofs.Common.{vec_items, subst, arith}
use Rattle.pages.specs.Turns.{Listed}
use Rattle.printouts.proofs.Carrying.{unreadable_lines}
use Rattle.printouts.proofs.OneLine.{listed_line}
use Rattle.printouts.proofs.replaying.replay_protocol.Goals as goal
use Rattle.printouts.specs.Printed.{unreadable_text}

pub returns-in-Some-clause-listed : goal.returns-in-Some-clause-listed
returns-in-Some-clause-listed g c =
    let text = unreadable_text c.in-Some.line in
    subst (λ lines. Listed (vec_items c.args.out.now) lines c.unreadable_line.result (vec_items c.unreadable_line.new.out))
    (unreadable_lines (g.O.Walking.setup c.args.oracle) c.args.acts.now c.in-Some.line c.in-Some.ensures.value)
    (listed_line c.unreadable_line.result (vec_items c.args.out.now) text (vec_items c.unreadable_line.new.out) c.unreadable_line.ensures.items)

pub returns-in-Some-clause-succeeds : goal.returns-in-Some-clause-succeeds
returns-in-Some-clause-succeeds g c enough = c.unreadable_line.ensures.succeeds (omega arith)
