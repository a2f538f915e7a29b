use Rattle.std.proofs.Common.{ℕ, ◌*◌, ◌%◌, ◌^◌, ap, ◌∙◌, inl, inr, arith}
use lib.Bits.{bit_or}
use Rattle.std.proofs.lemmas.Nat.{one_shl}
use Rattle.digits.specs.Bits.{bit}
use Rattle.polygon.proofs.SideRows.{Before, After, side_row_bits, side_row_past}
use Rattle.polygon.proofs.outline.Outline.side_row.Goals as goal
use Rattle.polygon.proofs.outline.Outline.side_row.Goals.{then-a-eq0, else-a-eq0, then-a-self-2, else-a-self-2}

pub returns-then-a-self : goal.returns-then-a-self
returns-then-a-self c b = side_row_past c.args.self.n c.args.a (omega arith) b

pub returns : goal.returns
returns c b =
    let before : Before c.args.self.n c.args.a c.if-a-eq0.before =
    elim c.if-a-eq0.branch [
      | then-a-eq0 w ↦ inl (w.if-a-eq0.true, w.before-is)
      | else-a-eq0 w ↦ inr (omega arith, omega (arith, w.before-is))
    ] in
    let after : After c.args.self.n c.args.a c.if-a-self-2.after =
    elim c.if-a-self-2.branch [
      | then-a-self-2 w ↦ inl (w.if-a-self-2.true, w.after-is)
      | else-a-self-2 w ↦ inr (omega arith, w.after-is)
    ] in
    ap (λ (x : ℕ). bit (bit_or x ((1 * 2 ^ c.if-a-self-2.after) % 2 ^ 32)) b) (one_shl c.if-a-eq0.before 32 (omega arith))
    ∙ ap (λ (x : ℕ). bit (bit_or (2 ^ c.if-a-eq0.before) x) b) (one_shl c.if-a-self-2.after 32 (omega arith))
    ∙ side_row_bits c.args.self.n c.args.a c.if-a-eq0.before c.if-a-self-2.after c.args.self.large (omega arith) before after b
