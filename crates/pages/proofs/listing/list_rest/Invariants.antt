use Rattle.std.proofs.Common.{length}
use Rattle.pages.proofs.Onward.{Listing}
use Rattle.pages.proofs.listing.list_rest.Given as goal
use Rattle.pages.specs.Left.{left}

abbrev pub invariant-pages : goal.invariant-pages
invariant-pages g l = Listing g.row.O.Denot g.O.Walking l.initial.pager l.pager l.initial.out l.out

abbrev pub decreases-pages : goal.decreases-pages
decreases-pages g l = length (left g.O.Walking.setup l.pager)
