use Rattle.std.proofs.Common.{arith}
use Rattle.std.proofs.lemmas.Grind.{common_steps}
use Rattle.lines.proofs.Steps.{length_byte}
use Rattle.lines.proofs.refused_line.Goals as goal

-- three digits at most, and the room was asked for
pub put_number-requires : goal.put_number-requires
put_number-requires c = omega (arith, length_byte c.from.result (omega arith), c.in_ok-reserve.ensures.ok)

pub push_reserved-requires : goal.push_reserved-requires
push_reserved-requires c = omega (arith, length_byte c.from.result (omega arith), c.in_ok-reserve.ensures.ok)

pub returns : goal.returns
returns c = grind (arith, common_steps)
