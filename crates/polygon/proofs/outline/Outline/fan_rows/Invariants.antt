use Rattle.std.proofs.Common.{◌≡◌, ◌≤◌, length}
use Rattle.polygon.proofs.FanRows.{fan_below}
use Rattle.polygon.specs.Rows.{Tied}
use Rattle.polygon.proofs.outline.Outline.fan_rows.Given as goal

abbrev pub invariant-loop-b : goal.invariant-loop-b
invariant-loop-b l = (length l.rows.0 ≡ 24) × (2 ≤ l.b) × Tied l.fn.self.n (fan_below l.fn.self.n l.b) l.rows.0
