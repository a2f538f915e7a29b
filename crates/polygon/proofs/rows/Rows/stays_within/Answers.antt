use Rattle.std.proofs.Common.{ℕ, ◌+◌, ◌-◌, ◌*◌, ◌%◌, ◌^◌, eqb, get_or, ap, ◌∙◌, arith, pow_mono}
use lib.Bits.{bit_and}
use Rattle.std.proofs.lemmas.Nat.{one_shl}
use Rattle.polygon.specs.Rows.{stays_within}
use Rattle.polygon.proofs.rows.Rows.stays_within.Goals as goal

pub overflow_sub-span : goal.overflow_sub-span
overflow_sub-span c =
    omega (arith, one_shl c.args.line.a 32 (omega arith), one_shl (c.args.line.b + 1) 32 (omega arith), pow_mono {i = c.args.line.a} {j = c.args.line.b + 1} (omega arith))

pub returns : goal.returns
unfolding stays_within
returns c =
    let row = get_or c.args.self.now.0 c.args.c 0 in
    ap (λ (x : ℕ). eqb (bit_and row (x - (1 * 2 ^ c.args.line.a) % 2 ^ 32)) row) (one_shl (c.args.line.b + 1) 32 (omega arith))
    ∙ ap (λ (x : ℕ). eqb (bit_and row (2 ^ (c.args.line.b + 1) - x)) row) (one_shl c.args.line.a 32 (omega arith))
