use Rattle.std.proofs.Common.{◌≡◌, [], ◌∷◌, refl, rules, subst, vec_items}
use Rattle.lines.specs.Texts.{fault_text}
use Rattle.pages.specs.Turns.{Listed}
use Rattle.printouts.proofs.Accepted.{asked_drawable}
use Rattle.printouts.proofs.OneLine.{listed_line}
use Rattle.printouts.proofs.replaying.replay_sheet.Goals as goal
use Rattle.printouts.specs.Printed.{replay_lines}

pub replay_plan-requires : goal.replay_plan-requires
replay_plan-requires c = asked_drawable c.args.sheet.now _ (c.in-Ok.ensures.accepting.only _ refl)

pub returns-in-Ok-clause-listed : goal.returns-in-Ok-clause-listed
returns-in-Ok-clause-listed c = search rules

pub returns-in-Err-clause-listed : goal.returns-in-Err-clause-listed
returns-in-Err-clause-listed c =
    let text = fault_text c.in-Err.fault in
    let only : text ∷ [] ≡ replay_lines c.args.sheet.now c.args.acts.now = search rules in
    subst (λ lines. Listed (vec_items c.args.out.now) lines c.fault_line.result (vec_items c.fault_line.new.out)) only
    (listed_line c.fault_line.result (vec_items c.args.out.now) text (vec_items c.fault_line.new.out) c.fault_line.ensures.items)
