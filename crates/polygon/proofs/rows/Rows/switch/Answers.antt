use Rattle.std.proofs.Common.{ℕ, ◌*◌, ◌%◌, ◌^◌, List, get_or, set, ap, ◌∙◌, arith}
use lib.Bits.{bit_xor}
use Rattle.std.proofs.lemmas.Nat.{one_shl}
use Rattle.polygon.specs.Rows.{half_switched, switched}
use Rattle.polygon.proofs.rows.Rows.switch.Goals as goal

-- one row, with the digit's weight as the code has it
half : (rows : List ℕ) (a x : ℕ) → List ℕ
half rows a x = set rows a (bit_xor (get_or rows a 0) x)

pub returns : goal.returns
unfolding switched half
returns c =
    ap (λ (x : ℕ). half (half c.args.self.now.0 c.args.line.a x) c.args.line.b ((1 * 2 ^ c.args.line.a) % 2 ^ 32)) (one_shl c.args.line.b 32 (omega arith))
    ∙ ap (λ (x : ℕ). half (half_switched c.args.self.now.0 c.args.line.a c.args.line.b) c.args.line.b x) (one_shl c.args.line.a 32 (omega arith))
