use Rattle.engine.proofs.Sequences.{Running}
use Rattle.engine.proofs.run.run.Given as goal

abbrev pub invariant-loop-call : goal.invariant-loop-call
invariant-loop-call g l =
    Running g.row.O.Denot g.O.Walking l.initial.census l.census l.initial.calls l.calls l.call-index
