use Rattle.std.proofs.Common.{◌≡◌, length}
use Rattle.triangulations.specs.Codes.{members}
use Rattle.polygon.proofs.Gathering.{first_of}
use Rattle.polygon.specs.Rows.{Tied}
use Rattle.polygon.proofs.outline.Outline.gathered.Given as goal

abbrev pub invariant-loop-e : goal.invariant-loop-e
invariant-loop-e l = (length l.rows.0 ≡ 24) × Tied l.self.n (first_of (members l.row) l.e) l.rows.0
