use Rattle.std.proofs.Common.{length}
use Rattle.printouts.proofs.Carrying.{Carrying}
use Rattle.printouts.specs.Printed.{protocol_lines}
use Rattle.printouts.proofs.replaying.acts_lines.Given as goal

abbrev pub invariant-loop-request : goal.invariant-loop-request
invariant-loop-request g l =
    Carrying g.row.O.Denot g.O.Walking (g.O.Walking.setup l.fn.oracle) (protocol_lines (g.O.Walking.setup l.fn.oracle) l.fn.acts) l.census l.rest l.fn.out l.out

abbrev pub decreases-loop-request : goal.decreases-loop-request
decreases-loop-request g l = length l.rest
