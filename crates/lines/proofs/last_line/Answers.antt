use Rattle.std.proofs.Common.{arith}
use Rattle.lines.proofs.Steps.{length_word, length_long}
use Rattle.lines.proofs.last_line.Goals as goal

-- ten digits at most, then twenty, and the room was asked for
pub put_number-requires : goal.put_number-requires
put_number-requires c = omega (arith, length_word c.from.result (omega arith), c.in_ok-reserve.ensures.ok)

pub put-requires-2 : goal.put-requires-2
put-requires-2 c = omega (arith, length_word c.from.result (omega arith), c.in_ok-reserve.ensures.ok)

pub put_number-requires-2 : goal.put_number-requires-2
put_number-requires-2 c = omega (arith, length_word c.from.result (omega arith), length_long c.args.steps (omega arith), c.in_ok-reserve.ensures.ok)

pub push_reserved-requires : goal.push_reserved-requires
push_reserved-requires c = omega (arith, length_word c.from.result (omega arith), length_long c.args.steps (omega arith), c.in_ok-reserve.ensures.ok)
