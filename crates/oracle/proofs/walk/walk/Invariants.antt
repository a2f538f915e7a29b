use Rattle.oracle.proofs.Turns.{Rising, Scanning}
use Rattle.oracle.proofs.walk.walk.Given as goal

abbrev pub invariant-scan : goal.invariant-scan
invariant-scan g l =
    Scanning g.row.O.Denot g.O.Walking l.initial.oracle l.next l.initial.steps l.oracle l.slot l.steps

abbrev pub invariant-rising : goal.invariant-rising
invariant-rising g l =
    Rising g.row.O.Denot g.O.Walking l.initial.oracle l.initial.next l.initial.steps l.oracle l.next l.steps

abbrev pub decreases-rising : goal.decreases-rising
decreases-rising g l = (g.O.Walking.setup l.oracle).rank (g.O.Walking.current l.oracle)
