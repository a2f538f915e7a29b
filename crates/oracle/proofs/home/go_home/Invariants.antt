use Rattle.oracle.proofs.Homing.{Homing}
use Rattle.oracle.proofs.home.go_home.Given as goal

abbrev pub invariant-loop-up : goal.invariant-loop-up
invariant-loop-up g l = Homing g.row.O.Denot g.O.Walking l.fn.oracle l.oracle

abbrev pub decreases-loop-up : goal.decreases-loop-up
decreases-loop-up g l = (g.O.Walking.setup l.oracle).rank (g.O.Walking.current l.oracle)
