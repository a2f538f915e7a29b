use Rattle.regions.proofs.Leaving.{Tried}
use Rattle.regions.proofs.judging.first_to_leave.Given as goal

abbrev pub invariant-loop-rest : goal.invariant-loop-rest
invariant-loop-rest l = Tried l.map.n l.map.rows l.set l.rest

abbrev pub decreases-loop-rest : goal.decreases-loop-rest
decreases-loop-rest l = l.rest
