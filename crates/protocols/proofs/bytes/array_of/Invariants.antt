use Rattle.protocols.proofs.Arrays.{Decoded}
use Rattle.protocols.proofs.bytes.array_of.Given as goal

abbrev pub invariant-loop-place : goal.invariant-loop-place
invariant-loop-place g l = Decoded l.digits g.row.N l.place l.bytes
