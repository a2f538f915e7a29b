use Rattle.std.proofs.Common.{◌≡◌, vec_items, ap, ◌∙◌, subst}
use Rattle.std.specs.List.{concat}
use Rattle.lines.proofs.Fronts.{written_of}
use Rattle.lines.specs.Written.{Written}
use Rattle.printouts.proofs.InPages.{failed_first}
use Rattle.printouts.proofs.printing.print_sheet.Goals as goal
use Rattle.printouts.specs.Left.{sheet_left}
use Rattle.printouts.specs.Printed.{lines_of, sheet_lines}

pub returns-clause-printed : goal.returns-clause-printed
returns-clause-printed g c =
    let held = g.W.Write.contents in
    let before = held c.args.writer.now in
    let after = held c.print_left.new.writer in
    let r = c.print_left.result in
    let sheet = vec_items c.in_ok-sheet.sheet in
    let lines : sheet_left c.of_sheet.result ≡ sheet_lines sheet = c.of_sheet.ensures.lines ∙ ap sheet_lines c.as_slice.ensures.value in
    written_of (g.R.Read.remaining c.args.reader.now) before after r sheet (λ x. concat (lines_of x)) c.in_ok-sheet.ensures.reading
    (subst (λ ls. Written before after r (concat ls)) lines c.print_left.ensures)

pub returns-in_err-sheet-clause-printed : goal.returns-in_err-sheet-clause-printed
returns-in_err-sheet-clause-printed g c =
    failed_first (g.R.Read.remaining c.args.reader.now) c.from_residual.result (g.W.Write.contents c.args.writer.now) (λ xs. concat (sheet_lines xs)) c.from_residual.ensures.0
