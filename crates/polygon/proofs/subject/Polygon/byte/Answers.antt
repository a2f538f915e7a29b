use Rattle.std.proofs.Common.{◌*◌, inl, inr, arith}
use Rattle.pairs.proofs.Numbers.{pair_count_limit, pair_count_more}
use Rattle.pairs.specs.Pairs.{number}
use Rattle.polygon.proofs.Holding.{corners_in}
use Rattle.polygon.proofs.Reading.{read_start, read_more, read_done}
use Rattle.polygon.proofs.subject.Polygon.byte.Goals as goal
use Rattle.polygon.proofs.subject.Polygon.byte.Goals.{then-loop-next-test+then-read-ge8, else-loop-next-test}

pub overflow_mul-k : goal.overflow_mul-k
overflow_mul-k c = let p = c.args.self.now in record { fits = omega (arith, c.requires, pair_count_limit p.outline.n p.outline.few) }

pub overflow_shr-digits : goal.overflow_shr-digits
overflow_shr-digits c =
    let p = c.args.self.now in
    let t = c.corners-a.ensures.rule (omega (arith, c.requires, pair_count_limit p.outline.n p.outline.few)) in
    omega (arith, t.ascending, t.within)

pub overflow_sub-read : goal.overflow_sub-read
overflow_sub-read c =
    let p = c.args.self.now in
    let t = c.corners-a.ensures.rule (omega (arith, c.requires, pair_count_limit p.outline.n p.outline.few)) in
    omega (arith, t.ascending)

pub overflow_step-next : goal.overflow_step-next
overflow_step-next c =
    let p = c.args.self.now in
    let t = c.corners-a.ensures.rule (omega (arith, c.requires, pair_count_limit p.outline.n p.outline.few)) in
    record { fits = omega (arith, t.within) }

pub ends-requires : goal.ends-requires
ends-requires c =
    let p = c.args.self.now in
    let s = corners_in p.outline.n (8 * c.args.k) c.corners-a.result c.corners-a.ensures.value p.outline.few c.requires in
    record { positive = omega arith; within = s.1 }

pub loop-next-init : goal.loop-next-init
unfolding number
loop-next-init c =
    let p = c.args.self.now in
    let b = c.corners-a.result.1 in
    let t = c.corners-a.ensures.rule (omega (arith, c.requires, pair_count_limit p.outline.n p.outline.few)) in
    let s = corners_in p.outline.n (8 * c.args.k) c.corners-a.result c.corners-a.ensures.value p.outline.few c.requires in (
      omega arith,
      omega (arith, s.1),
      omega (arith, t.numbered, t.ascending, pair_count_more b),
      read_start p.outline.n p.rows.0 c.args.k b c.ends.result c.ends.ensures c.corners-a.result.0 t.numbered,
    )

pub loop-next-preserved : goal.loop-next-preserved
loop-next-preserved c =
    let p = c.args.self.now in
    let b = c.loop-next.next in
    let inv = c.loop-next.invariant in (
      omega arith,
      omega arith,
      omega (arith, pair_count_more b, inv.2),
      read_more p.outline.n p.rows.0 c.args.k b c.ends-in-loop-next.result c.ends-in-loop-next.ensures c.loop-next.read c.loop-next.digits
          c.if-read-ge8.false (omega (arith, p.outline.few, c.loop-next-test.true)) inv.2 inv.3,
    )

pub returns : goal.returns
returns c =
    let p = c.args.self.now in
    let inv = c.loop-next.invariant in
    read_done p.outline.n p.rows.0 c.args.k c.loop-next.next c.loop-next.read c.loop-next.digits (omega (arith, c.requires, pair_count_limit p.outline.n p.outline.few)) inv.2 inv.3
    (elim c.loop-next-test.branch [ then-loop-next-test+then-read-ge8 w ↦ inl w.if-read-ge8.true | else-loop-next-test w ↦ inr w.loop-next-test.false ])
