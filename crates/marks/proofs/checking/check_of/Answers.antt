use Rattle.std.proofs.Common.{◌≡◌, ◌+◌, ◌*◌, ◌%◌, ◌≤◌, get_or, take, drop, ap, mul-le-mul, arith}
use Rattle.std.proofs.lemmas.List.{at_drop_more, at_drop_all, get_or-take}
use Rattle.marks.proofs.checking.check_of.Goals as goal
use Rattle.marks.specs.Layout.{weigh}

pub loop-index-preserved : goal.loop-index-preserved
unfolding weigh
loop-index-preserved c =
    let xs = take 508 c.args.block.now in
    let i = c.loop-index.index in
    let step : weigh i (drop i xs) ≡ (i + 1) * get_or xs i 0 + weigh (i + 1) (drop (i + 1) xs) = at_drop_more (weigh i) xs i 0 c.loop-index-test.true in
    let here : (i + 1) * c.from.result ≡ (i + 1) * get_or xs i 0 = ap (λ b. (i + 1) * b) c.from.ensures in
    let low : i + 1 ≤ 508 = omega arith in
    let small : c.from.result ≤ 255 = omega (arith, c.fits-block i, get_or-take 508 c.args.block.now i 0 (omega arith)) in
    let added : (i + 1) * c.from.result ≤ 129540 = mul-le-mul low small in
    (omega arith, omega arith)

pub returns : goal.returns
unfolding weigh
returns c =
    let xs = take 508 c.args.block.now in
    let end = at_drop_all (weigh c.loop-index.index) xs c.loop-index.index c.loop-index-test.false in
    let whole : c.loop-index.sum ≡ weigh 0 xs = omega arith in
    ap (λ n. n % 65521) whole
