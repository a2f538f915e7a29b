use Rattle.std.proofs.Common.{vec_items, subst, arith}
use Rattle.printouts.proofs.InPages.{failed, fewer_left, page_last, page_stopped, page_written, stopped_before}
use Rattle.printouts.proofs.printing.print_left.Goals as goal
use Rattle.printouts.specs.Left.{sheet_left}
use Rattle.lines.specs.Written.{Written, WrittenFront}
use Rattle.std.specs.Io.KnownBytes.{Appends}
use Rattle.std.specs.List.{concat}

pub returns-in_err-done : goal.returns-in_err-done
returns-in_err-done g c =
    let held = g.W.Write.contents in
    let old = held c.args.writer.now in
    let now = held c.pages.writer in
    let all = sheet_left c.args.pager in
    failed c.from_residual.result old now (concat all) c.from_residual.ensures.0
    (stopped_before old now all (sheet_left c.pages.pager) (vec_items c.pages.page) c.pages.invariant)

pub returns-in_err-write_whole : goal.returns-in_err-write_whole
returns-in_err-write_whole g c =
    let held = g.W.Write.contents in
    let old = held c.args.writer.now in
    let now = held c.pages.writer in
    let new = held c.write_whole.new.writer in
    let all = sheet_left c.args.pager in
    let page = vec_items c.page.new.out in
    failed c.from_residual-in_err-write_whole.result old new (concat all) c.from_residual-in_err-write_whole.ensures.0
    (page_stopped old now new all (sheet_left c.pages.pager) (sheet_left c.page.new.self) 256 (vec_items c.pages.page) page c.pages.invariant c.in_ok-done.ensures.paged.1
    (subst (WrittenFront now new) c.as_slice-in-pages.ensures.value c.in_err-write_whole.ensures))

pub returns-then-done : goal.returns-then-done
returns-then-done g c =
    let held = g.W.Write.contents in
    let old = held c.args.writer.now in
    let now = held c.pages.writer in
    let new = held c.write_flushed.new.writer in
    let page = vec_items c.page.new.out in
    page_last old now new (sheet_left c.args.pager) (sheet_left c.pages.pager) (sheet_left c.page.new.self) 256 (vec_items c.pages.page) page c.pages.invariant c.in_ok-done.ensures.paged.1 c.write_flushed.result c.in_ok-done.done c.in_ok-done.ensures.paged.0 c.if-done.true
    (subst (Written now new c.write_flushed.result) c.as_slice.ensures.value c.write_flushed.ensures)

pub pages-preserved : goal.pages-preserved
pages-preserved g c =
    let held = g.W.Write.contents in
    let now = held c.pages.writer in
    let new = held c.write_whole.new.writer in
    let page = vec_items c.page.new.out in
    page_written (held c.args.writer.now) now new (sheet_left c.args.pager) (sheet_left c.pages.pager) (sheet_left c.page.new.self) 256 (vec_items c.pages.page) page c.pages.invariant c.in_ok-done.ensures.paged.1 (vec_items c.clear.new.self)
    (subst (Appends now new) c.as_slice-in-pages.ensures.value c.in_ok-write_whole.ensures) c.clear.ensures.items

pub pages-smaller : goal.pages-smaller
pages-smaller g c =
    fewer_left 256 c.in_ok-done.done (vec_items c.pages.page) (vec_items c.page.new.out) (sheet_left c.pages.pager) (sheet_left c.page.new.self) c.in_ok-done.ensures.paged.0 c.if-done.false (omega arith) c.in_ok-done.ensures.paged.1
