use Rattle.std.proofs.Common.{ℕ, eqb, get_or, ap}
use Rattle.digits.proofs.Digits.{bit_test}
use Rattle.polygon.proofs.rows.Rows.are_joined.Goals as goal

pub returns : goal.returns
returns c = ap (λ (x : ℕ). eqb x 1) (bit_test (get_or c.args.self.now.0 c.args.line.a 0) c.args.line.b)
