use Rattle.std.proofs.Common.{arith}
use Rattle.std.proofs.lemmas.Grind.{common_steps}
use Rattle.lines.proofs.Steps.{length_byte, length_word}
use Rattle.lines.proofs.fault_line.Goals as goal

-- three digits at most, ten and three, and the room was asked for
pub put_number-requires : goal.put_number-requires
put_number-requires c = omega (arith, length_byte c.from.result (omega arith), c.in_ok-reserve.ensures.ok)

pub put-requires-2 : goal.put-requires-2
put-requires-2 c = omega (arith, length_byte c.from.result (omega arith), c.in_ok-reserve.ensures.ok)

pub put_number-requires-2 : goal.put_number-requires-2
put_number-requires-2 c = omega (arith, length_byte c.from.result (omega arith), length_word c.from-2.result (omega arith), c.in_ok-reserve.ensures.ok)

pub put-requires-3 : goal.put-requires-3
put-requires-3 c = omega (arith, length_byte c.from.result (omega arith), length_word c.from-2.result (omega arith), c.in_ok-reserve.ensures.ok)

pub put_number-requires-3 : goal.put_number-requires-3
put_number-requires-3 c = omega (arith, length_byte c.from.result (omega arith), length_word c.from-2.result (omega arith), length_byte c.from-3.result (omega arith), c.in_ok-reserve.ensures.ok)

pub push_reserved-requires : goal.push_reserved-requires
push_reserved-requires c = omega (arith, length_byte c.from.result (omega arith), length_word c.from-2.result (omega arith), length_byte c.from-3.result (omega arith), c.in_ok-reserve.ensures.ok)

pub returns : goal.returns
returns c = grind (arith, common_steps)
