use Rattle.std.proofs.Common.{◌≡◌, [], ◌∷◌, rules, vec_items, subst}
use Rattle.lines.specs.Texts.{fault_text}
use Rattle.pages.specs.Turns.{Listed}
use Rattle.printouts.proofs.OneLine.{listed_line}
use Rattle.printouts.proofs.listing.list_pages.Goals as goal
use Rattle.printouts.specs.Left.{pages_left}

pub returns-in-Fault-Some-clause-listed : goal.returns-in-Fault-Some-clause-listed
returns-in-Fault-Some-clause-listed c =
    let text = fault_text c.in-Fault-Some.fault in
    let only : text ∷ [] ≡ pages_left c.args.pages = search rules in
    subst (λ lines. Listed (vec_items c.args.out.now) lines c.fault_line.result (vec_items c.fault_line.new.out)) only
    (listed_line c.fault_line.result (vec_items c.args.out.now) text (vec_items c.fault_line.new.out) c.fault_line.ensures.items)
