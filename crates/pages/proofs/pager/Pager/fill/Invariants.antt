use Rattle.pages.proofs.Paging.{Paging}
use Rattle.pages.proofs.pager.Pager.fill.Given as goal

abbrev pub invariant-lines : goal.invariant-lines
invariant-lines g l =
    Paging g.row.O.Denot g.O.Walking l.initial.self l.self l.initial.out l.out l.counter l.limit
