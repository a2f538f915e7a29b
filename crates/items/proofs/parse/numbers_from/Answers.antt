use Rattle.std.proofs.Common.{◌≡◌, ok_or, Ok, Err, ◌∙◌, rules}
use Rattle.std.proofs.lemmas.Result.{err_from_is_err_and}
use Rattle.items.specs.Items.{part_at, begins_at}
use Rattle.items.specs.Lines.{number_in, numbered}
use Rattle.items.specs.Faults.{spot, misfit, numbers_behind}
use Rattle.items.proofs.Faults.{first_misfit, first_read}
use Rattle.items.proofs.parse.numbers_from.Goals as goal

pub returns-in_err-first : goal.returns-in_err-first
returns-in_err-first c =
    let x = c.args.lexer.now in
    let p = err_from_is_err_and c.from_residual.result c.from_residual.ensures.1 in
    let told : Err c.in_err-first.field-0.0 ≡ ok_or (number_in (part_at x.line.now x.place.at).0) (spot x.place.line (begins_at x.line.now x.place.at)) = search rules in
    rw (p.1, p.2) (first_misfit x.place.line x.line.now x.place.at c.args.kind c.in_err-first.field-0.0 told)

pub returns : goal.returns
returns c =
    let x = c.args.lexer.now in
    let told : Ok c.in_ok-first.first ≡ ok_or (number_in (part_at x.line.now x.place.at).0) (spot x.place.line (begins_at x.line.now x.place.at)) = search rules in
    let on : c.line_from.result ≡ ok_or (numbered c.args.kind c.in_ok-first.first x.line.now (part_at x.line.now x.place.at).1) (spot x.place.line (misfit (numbers_behind c.args.kind) x.line.now (part_at x.line.now x.place.at).1)) = search rules in
    on ∙ first_read x.place.line x.line.now x.place.at c.args.kind c.in_ok-first.first told
