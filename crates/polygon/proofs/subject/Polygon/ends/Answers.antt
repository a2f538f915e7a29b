use Rattle.std.proofs.Common.{ℕ, ◌-◌, get_or, ap, ◌∙◌, inl, inr, arith, pow_mono}
use lib.Bits.{bit_and}
use Rattle.std.proofs.lemmas.Nat.{one_shl, pow_pos}
use Rattle.digits.specs.Bits.{bit}
use Rattle.polygon.proofs.Ends.{Off, ends_digit}
use Rattle.polygon.proofs.subject.Polygon.ends.Goals as goal
use Rattle.polygon.proofs.subject.Polygon.ends.Goals.{then-b-self, else-b-self}

pub overflow_sub-result-2 : goal.overflow_sub-result-2
overflow_sub-result-2 c =
    let p = c.args.self.now in
    let b = c.args.b in
    let shl = one_shl (b - 1) 32 (omega (arith, p.outline.few)) in
    elim c.if-b-self.branch [
      | then-b-self w ↦ omega (arith, w.sides-is, w.if-b-self.true, p.outline.large, pow_mono {i = 1} {j = b - 1} (omega (arith, w.if-b-self.true, p.outline.large)))
      | else-b-self w ↦ omega (arith, w.sides-is, pow_pos (b - 1))
    ]

pub returns : goal.returns
returns c a =
    let p = c.args.self.now in
    let b = c.args.b in
    let off : Off p.outline.n b c.if-b-self.sides =
    elim c.if-b-self.branch [
      | then-b-self w ↦ inl (w.if-b-self.true, w.sides-is)
      | else-b-self w ↦ inr (omega (arith, w.if-b-self.false), w.sides-is)
    ] in
    ap (λ (x : ℕ). bit (bit_and (get_or p.rows.0 b 0) (x - c.if-b-self.sides)) a) (one_shl (b - 1) 32 (omega (arith, p.outline.few)))
    ∙ ends_digit p.outline.n p.rows.0 b c.if-b-self.sides p.outline.large p.outline.few p.tied c.requires.positive c.requires.within off a
