use Rattle.std.proofs.Common.{◌≡◌, rules, vec_items, subst}
use Rattle.lines.proofs.Fronts.{written_of}
use Rattle.lines.proofs.verdict.print_verdict.Goals as goal
use Rattle.lines.specs.Texts.{verdict_on, verdict_text}
use Rattle.lines.specs.Written.{Written}

pub returns-clause-printed : goal.returns-clause-printed
returns-clause-printed g c =
    let held = g.W.Write.contents in
    let before = held c.args.writer.now in
    let after = held c.write_flushed.new.writer in
    let r = c.write_flushed.result in
    let sheet = vec_items c.in_ok-sheet.sheet in
    let said : c.as_slice-2.result.now ≡ verdict_on sheet = search rules in
    written_of (g.R.Read.remaining c.args.reader.now) before after r sheet verdict_text c.in_ok-sheet.ensures.reading (subst (Written before after r) said c.write_flushed.ensures)
