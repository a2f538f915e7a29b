use Rattle.std.proofs.Common.{rules, ◌≡◌, ◌≤◌, ◌<◌, length, get_or, sym, ap, ◌∙◌}
use Rattle.items.specs.Faults.{spot}
use Rattle.items.proofs.Reading.{item_end, item_letter, item_cut, begins_end, begins_letter, begins_number}
use Rattle.items.proofs.lexer.Lexer.next_item.Goals as goal

pub returns-in_default-clause-item : goal.returns-in_default-clause-item
returns-in_default-clause-item c =
    let past : length c.args.self.now.line.now ≤ c.args.self.now.place.at = search rules in
    sym (item_end c.args.self.now.line.now c.args.self.now.place.at past)

pub returns-then-first-ne32-clause-item : goal.returns-then-first-ne32-clause-item
returns-then-first-ne32-clause-item c =
    let within : c.args.self.now.place.at < length c.args.self.now.line.now = search rules in
    let same : c.in-Some.first.now ≡ get_or c.args.self.now.line.now c.args.self.now.place.at 0 = search rules in
    let told = item_letter c.args.self.now.line.now c.args.self.now.place.at within (λ e. c.if-first-ne32.true (same ∙ e)) in
    cc

pub returns-clause-item : goal.returns-clause-item
returns-clause-item c =
    let within : c.args.self.now.place.at < length c.args.self.now.line.now = search rules in
    let same : c.in-Some.first.now ≡ get_or c.args.self.now.line.now c.args.self.now.place.at 0 = search rules in
    item_cut c.args.self.now.line.now c.args.self.now.place.at c.digit_run-n.result within
    (sym same ∙ c.if-first-ne32.false) c.digit_run-n.ensures.value

pub returns-in_default-clause-place : goal.returns-in_default-clause-place
returns-in_default-clause-place c =
    let past : length c.args.self.now.line.now ≤ c.args.self.now.place.at = search rules in
    ap (spot c.args.self.now.place.line) (sym (begins_end c.args.self.now.line.now c.args.self.now.place.at past))

pub returns-then-first-ne32-clause-place : goal.returns-then-first-ne32-clause-place
returns-then-first-ne32-clause-place c =
    let within : c.args.self.now.place.at < length c.args.self.now.line.now = search rules in
    let same : c.in-Some.first.now ≡ get_or c.args.self.now.line.now c.args.self.now.place.at 0 = search rules in
    ap (spot c.args.self.now.place.line)
    (sym (begins_letter c.args.self.now.line.now c.args.self.now.place.at within (λ e. c.if-first-ne32.true (same ∙ e))))

pub returns-clause-place : goal.returns-clause-place
returns-clause-place c =
    let within : c.args.self.now.place.at < length c.args.self.now.line.now = search rules in
    let same : c.in-Some.first.now ≡ get_or c.args.self.now.line.now c.args.self.now.place.at 0 = search rules in
    ap (spot c.args.self.now.place.line)
    (sym (begins_number c.args.self.now.line.now c.args.self.now.place.at within (sym same ∙ c.if-first-ne32.false)))
