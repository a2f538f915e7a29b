use Rattle.std.proofs.Common.{sym, ap, ◌∙◌, subst}
use Rattle.items.specs.Faults.{unplaced, Located, ByHand}
use Rattle.items.specs.Texts.{Spells, SevenDigits}
use Rattle.items.proofs.Faults.{unplaced_read}
use Rattle.items.proofs.Misfits.{located, by_hand}
use Rattle.items.proofs.Seven.{seven_digits}
use Rattle.items.proofs.Texts.{spells}
use Rattle.items.proofs.parse.read_line.Goals as goal

pub returns-clause-spells : goal.returns-clause-spells
returns-clause-spells c =
    let whole = ap unplaced c.parse_line.ensures ∙ unplaced_read c.args.bytes.now c.args.number in
    subst (λ r. Spells c.args.bytes.now r) (sym whole) (spells c.args.bytes.now)

pub returns-clause-seven_digits : goal.returns-clause-seven_digits
returns-clause-seven_digits c =
    let whole = ap unplaced c.parse_line.ensures ∙ unplaced_read c.args.bytes.now c.args.number in
    subst (λ r. SevenDigits c.args.bytes.now r) (sym whole) (seven_digits c.args.bytes.now)

pub returns-clause-located : goal.returns-clause-located
returns-clause-located c =
    subst (λ r. Located c.args.bytes.now c.args.number r) (sym c.parse_line.ensures) (located c.args.bytes.now c.args.number)

pub returns-clause-by_hand : goal.returns-clause-by_hand
returns-clause-by_hand c =
    subst (λ r. ByHand c.args.bytes.now c.args.number r) (sym c.parse_line.ensures) (by_hand c.args.bytes.now c.args.number)
