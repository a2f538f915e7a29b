-- What a polygon stands for.
use Rattle.std.specs.Prelude.{ℕ, cond, ◌&&◌, Ok, Err, Result, nat_le}
use Rattle.refusals.specs.declared.Refusal.{Refusal}
use Rattle.refusals.specs.declared.Refusal.TheVariants.{OutOfRange}
use Rattle.oracle.specs.Setup.{Code, Setup}
use Rattle.triangulations.specs.Census.{polygon}
use Rattle.triangulations.specs.Codes.{code_of}
use Rattle.polygon.specs.Rows.{set_of}
use Rattle.polygon.specs.declared.subject.Polygon.{Polygon}

-- The code of the current triangulation.
abbrev pub current_of : Polygon → Code
current_of p = code_of (set_of p.outline.n p.rows.0)

-- The set-up and the current object of what making gives, as a trait has them, or its refusal.
abbrev pub seen_by : (Polygon → Setup) → (Polygon → Code) → Result Polygon Refusal → Result (Setup × Code) Refusal
seen_by setup current (Ok p) = Ok (setup p, current p)
seen_by setup current (Err k) = Err k

-- A polygon of 3 to 24 corners stands at its root.
abbrev pub begun : ℕ → Result (Setup × Code) Refusal
begun n = cond (nat_le 3 n && nat_le n 24) (Ok (polygon n, (polygon n).root)) (Err OutOfRange)
