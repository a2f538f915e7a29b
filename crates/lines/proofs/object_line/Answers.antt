use Rattle.std.proofs.Common.{arith}
use Rattle.lines.proofs.Steps.{length_word}
use Rattle.lines.proofs.object_line.Goals as goal

-- a rank has ten digits at most, and the room was asked for
pub put_number-requires : goal.put_number-requires
put_number-requires c = omega (arith, length_word c.from.result (omega arith), c.in_ok-reserve_hex.ensures.room)

pub push_reserved-requires : goal.push_reserved-requires
push_reserved-requires c = omega (arith, length_word c.from.result (omega arith), c.in_ok-reserve_hex.ensures.room)

pub put_hex-requires : goal.put_hex-requires
put_hex-requires c = omega (arith, length_word c.from.result (omega arith), c.in_ok-reserve_hex.ensures.room)

pub push_reserved-requires-2 : goal.push_reserved-requires-2
push_reserved-requires-2 c = omega (arith, length_word c.from.result (omega arith), c.in_ok-reserve_hex.ensures.room)
