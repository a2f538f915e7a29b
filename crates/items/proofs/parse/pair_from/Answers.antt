use Rattle.std.proofs.Common.{◌≡◌, ok_or, Ok, Err, ◌∙◌, rules}
use Rattle.std.proofs.lemmas.Result.{err_from_is_err_and}
use Rattle.items.specs.Items.{part_at, begins_at}
use Rattle.items.specs.Lines.{number_in, ended}
use Rattle.items.specs.Faults.{spot}
use Rattle.items.specs.declared.line.Line.TheVariants.{Pair}
use Rattle.items.proofs.Faults.{second_misfit, second_read}
use Rattle.items.proofs.parse.pair_from.Goals as goal

pub returns-in_err-second : goal.returns-in_err-second
returns-in_err-second c =
    let x = c.args.lexer.now in
    let p = err_from_is_err_and c.from_residual.result c.from_residual.ensures.1 in
    let told : Err c.in_err-second.field-0.0 ≡ ok_or (number_in (part_at x.line.now x.place.at).0) (spot x.place.line (begins_at x.line.now x.place.at)) = search rules in
    rw (p.1, p.2) (second_misfit x.place.line x.line.now x.place.at c.args.first c.in_err-second.field-0.0 told)

pub returns : goal.returns
returns c =
    let x = c.args.lexer.now in
    let told : Ok c.in_ok-second.second ≡ ok_or (number_in (part_at x.line.now x.place.at).0) (spot x.place.line (begins_at x.line.now x.place.at)) = search rules in
    let end : c.end_of.result ≡ ok_or (ended (part_at x.line.now (part_at x.line.now x.place.at).1).0 (Pair c.args.first c.in_ok-second.second)) (spot x.place.line (begins_at x.line.now (part_at x.line.now x.place.at).1)) = search rules in
    end ∙ second_read x.place.line x.line.now x.place.at c.args.first c.in_ok-second.second told
