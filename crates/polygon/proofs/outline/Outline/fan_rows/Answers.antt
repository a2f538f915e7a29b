use Rattle.std.proofs.Common.{◌≡◌, ℕ, ◌+◌, ◌-◌, length, sym, ap, ◌∙◌, subst, arith}
use Rattle.triangulations.specs.Moves.{fan}
use Rattle.polygon.specs.Rows.{Tied, bare}
use Rattle.polygon.proofs.FanRows.{fan_below, fan_start, fan_end, fan_more}
use Rattle.polygon.proofs.Agreement.{tied_same}
use Rattle.polygon.proofs.Ties.{length_switched}
use Rattle.polygon.proofs.outline.Outline.fan_rows.Goals as goal

pub loop-b-init : goal.loop-b-init
loop-b-init c =
    (omega arith, omega arith, tied_same c.args.self.n bare (fan_below c.args.self.n 2) c.args.self.few (fan_start c.args.self.n) c.side_rows-rows.result.0 c.side_rows-rows.ensures)

pub loop-b-preserved : goal.loop-b-preserved
loop-b-preserved c =
    let b = c.loop-b.b in
    let rows = c.loop-b.rows.0 in
    let same = c.switch.ensures in (
      ap length same ∙ length_switched rows 0 b (omega arith) (omega arith) (λ z. omega arith) ∙ c.loop-b.invariant.0,
      omega arith,
      subst (λ r. Tied c.args.self.n (fan_below c.args.self.n (b + 1)) r) (sym same)
          (fan_more c.args.self.n b rows c.args.self.few c.loop-b.invariant.1 (omega arith) c.loop-b.invariant.0 c.loop-b.invariant.2),
    )

pub returns : goal.returns
returns c =
    let end : c.loop-b.b ≡ c.args.self.n - 1 = omega arith in
    tied_same c.args.self.n (fan_below c.args.self.n (c.args.self.n - 1)) (fan c.args.self.n) c.args.self.few (fan_end c.args.self.n) c.loop-b.rows.0
    (subst (λ (x : ℕ). Tied c.args.self.n (fan_below c.args.self.n x) c.loop-b.rows.0) end c.loop-b.invariant.2)
