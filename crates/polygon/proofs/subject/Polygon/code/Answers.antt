use Rattle.std.proofs.Common.{◌<◌, arith}
use Rattle.pairs.proofs.Numbers.{pair_count_limit}
use Rattle.polygon.specs.Rows.{set_of}
use Rattle.polygon.proofs.Putting.{written_start, written_more, written_done}
use Rattle.polygon.proofs.Reading.{byte_none}
use Rattle.polygon.proofs.subject.Polygon.code.Goals as goal

pub loop-k-init : goal.loop-k-init
loop-k-init c = let p = c.args.self.now in written_start (set_of p.outline.n p.rows.0)

pub bounds-bytes-k : goal.bounds-bytes-k
bounds-bytes-k c =
    let p = c.args.self.now in
    omega (arith, c.pair_total.ensures.value, c.div_ceil-k-end.ensures, c.loop-k-test.true, pair_count_limit p.outline.n p.outline.few)

pub loop-k-preserved : goal.loop-k-preserved
loop-k-preserved c =
    let p = c.args.self.now in
    let l : c.loop-k.k < 35 = omega (arith, c.pair_total.ensures.value, c.div_ceil-k-end.ensures, c.loop-k-test.true, pair_count_limit p.outline.n p.outline.few) in
    written_more (set_of p.outline.n p.rows.0) c.loop-k.k c.byte.result c.loop-k.bytes l c.loop-k.invariant c.byte.ensures

pub returns : goal.returns
returns c =
    let p = c.args.self.now in
    written_done (set_of p.outline.n p.rows.0) c.loop-k.k c.loop-k.bytes c.loop-k.invariant
    (λ i l h. byte_none p.outline.n p.rows.0 i l (omega (arith, c.pair_total.ensures.value, c.div_ceil-k-end.ensures, c.loop-k-test.false)))
