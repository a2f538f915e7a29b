use Rattle.polygon.specs.Rows.{set_of}
use Rattle.polygon.proofs.Putting.{Written}
use Rattle.polygon.proofs.subject.Polygon.code.Given as goal

abbrev pub invariant-loop-k : goal.invariant-loop-k
invariant-loop-k l = Written (set_of l.self.outline.n l.self.rows.0) l.k l.bytes
