use Rattle.std.proofs.Common.{length, vec_items}
use Rattle.printouts.proofs.InPages.{Printing}
use Rattle.printouts.proofs.printing.print_left.Given as goal
use Rattle.printouts.specs.Left.{sheet_left}

abbrev pub invariant-pages : goal.invariant-pages
invariant-pages g l =
    Printing (g.W.Write.contents l.initial.writer) (g.W.Write.contents l.writer) (sheet_left l.initial.pager) (sheet_left l.pager) (vec_items l.page)

abbrev pub decreases-pages : goal.decreases-pages
decreases-pages g l = length (sheet_left l.pager)
