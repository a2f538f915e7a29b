use Rattle.std.proofs.Common.{◌≡◌, suc, ok_or, Ok, Err, rules}
use Rattle.std.proofs.lemmas.Result.{err_from_is_err_and}
use Rattle.refusals.specs.declared.Refusal.TheVariants.{FirstByte, LineForm}
use Rattle.items.specs.Items.{part_at, begins_at}
use Rattle.items.specs.Lines.{kind_in, lettered}
use Rattle.items.specs.Faults.{spot, misfit, numbers_behind}
use Rattle.items.proofs.Faults.{refused_as, letter_misfit, rest_misfit, rest_read}
use Rattle.items.proofs.parse.parse_line.Goals as goal

pub returns-in_err-kind : goal.returns-in_err-kind
returns-in_err-kind c =
    let l = c.args.bytes.now in
    let p = err_from_is_err_and c.from_residual.result c.from_residual.ensures.1 in
    let told : Err c.in_err-kind.field-0.0 ≡ refused_as FirstByte (ok_or (kind_in (part_at l 0).0) (spot c.args.number (begins_at l 0))) = search rules in
    rw (p.1, p.2) (letter_misfit c.args.number l c.in_err-kind.field-0.0 told)

pub returns-in_err-line : goal.returns-in_err-line
returns-in_err-line c =
    let l = c.args.bytes.now in
    let p = err_from_is_err_and c.from_residual-in_err-line.result c.from_residual-in_err-line.ensures.1 in
    let letter : Ok c.in_ok-kind.kind ≡ refused_as FirstByte (ok_or (kind_in (part_at l 0).0) (spot c.args.number (begins_at l 0))) = search rules in
    let told : Err c.in_err-line.field-0.0 ≡ refused_as LineForm (ok_or (lettered c.in_ok-kind.kind l (part_at l 0).1) (spot c.args.number (misfit (suc (numbers_behind c.in_ok-kind.kind)) l (part_at l 0).1))) = search rules in
    rw (p.1, p.2) (rest_misfit c.args.number l c.in_ok-kind.kind c.in_err-line.field-0.0 letter told)

pub returns : goal.returns
returns c =
    let l = c.args.bytes.now in
    let letter : Ok c.in_ok-kind.kind ≡ refused_as FirstByte (ok_or (kind_in (part_at l 0).0) (spot c.args.number (begins_at l 0))) = search rules in
    let told : Ok c.in_ok-line.line ≡ refused_as LineForm (ok_or (lettered c.in_ok-kind.kind l (part_at l 0).1) (spot c.args.number (misfit (suc (numbers_behind c.in_ok-kind.kind)) l (part_at l 0).1))) = search rules in
    let at : c.place_of.result ≡ spot c.args.number (begins_at l 0) = search rules in
    rest_read c.args.number l c.in_ok-kind.kind c.in_ok-line.line c.place_of.result letter told at
