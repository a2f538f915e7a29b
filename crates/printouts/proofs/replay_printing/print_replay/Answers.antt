use Rattle.std.proofs.Common.{◌≡◌, ◌++◌, ap, ◌∙◌, subst, vec_items}
use Rattle.std.specs.List.{concat}
use Rattle.lines.specs.Written.{Written}
use Rattle.printouts.proofs.Readers.{unwritten, written_of_both}
use Rattle.printouts.proofs.replay_printing.print_replay.Goals as goal
use Rattle.printouts.specs.Printed.{replay_lines, replay_text}

pub returns-in_err-plan-clause-printed : goal.returns-in_err-plan-clause-printed
returns-in_err-plan-clause-printed g c =
    unwritten c.from_residual.result (g.R.Read.remaining c.args.sheet.now) (g.A.Read.remaining c.args.acts.now) (g.W.Write.contents c.args.writer.now) c.from_residual.ensures.0

pub returns-in_err-read_to_end-clause-printed : goal.returns-in_err-read_to_end-clause-printed
returns-in_err-read_to_end-clause-printed g c =
    unwritten c.from_residual-in_err-read_to_end.result (g.R.Read.remaining c.args.sheet.now) (g.A.Read.remaining c.args.acts.now) (g.W.Write.contents c.args.writer.now) c.from_residual-in_err-read_to_end.ensures.0

pub returns-in_err-replay_sheet-clause-printed : goal.returns-in_err-replay_sheet-clause-printed
returns-in_err-replay_sheet-clause-printed g c =
    unwritten c.from_residual-in_err-replay_sheet.result (g.R.Read.remaining c.args.sheet.now) (g.A.Read.remaining c.args.acts.now) (g.W.Write.contents c.args.writer.now) c.from_residual-in_err-replay_sheet.ensures.0

pub returns-clause-printed : goal.returns-clause-printed
returns-clause-printed g c =
    let before = g.W.Write.contents c.args.writer.now in
    let after = g.W.Write.contents c.write_flushed.new.writer in
    let r = c.write_flushed.result in
    let plan = vec_items c.in_ok-plan.plan in
    let acts = vec_items c.read_to_end.new.buf in
    let said : c.as_slice-3.result.now ≡ replay_text plan acts =
    c.as_slice-3.ensures.value
    ∙ c.in_ok-replay_sheet.ensures.listed
    ∙ ap (λ t. t ++ concat (replay_lines c.as_slice.result.now c.as_slice-2.result.now)) c.new-lines.ensures.items
    ∙ ap (λ xs. concat (replay_lines xs c.as_slice-2.result.now)) c.as_slice.ensures.value
    ∙ ap (λ ys. replay_text plan ys) c.as_slice-2.ensures.value in
    written_of_both r (g.R.Read.remaining c.args.sheet.now) (g.A.Read.remaining c.args.acts.now) before after plan (vec_items c.new-orders.result) acts
    c.in_ok-plan.ensures.reading c.new-orders.ensures.items c.in_ok-read_to_end.ensures.bytes
    (subst (Written before after r) said c.write_flushed.ensures)
