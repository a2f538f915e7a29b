use Rattle.std.proofs.Common.{arith}
use Rattle.lines.proofs.Steps.{length_long}
use Rattle.lines.proofs.counts_line.Goals as goal

-- twenty digits each at most, and the room was asked for
pub put_number-requires : goal.put_number-requires
put_number-requires c = omega (arith, length_long c.args.objects (omega arith), c.in_ok-reserve.ensures.ok)

pub push_reserved-requires : goal.push_reserved-requires
push_reserved-requires c = omega (arith, length_long c.args.objects (omega arith), c.in_ok-reserve.ensures.ok)

pub put_number-requires-2 : goal.put_number-requires-2
put_number-requires-2 c = omega (arith, length_long c.args.objects (omega arith), length_long c.args.steps (omega arith), c.in_ok-reserve.ensures.ok)

pub push_reserved-requires-2 : goal.push_reserved-requires-2
push_reserved-requires-2 c = omega (arith, length_long c.args.objects (omega arith), length_long c.args.steps (omega arith), c.in_ok-reserve.ensures.ok)
