use Rattle.std.proofs.Common.{arith}
use Rattle.std.proofs.lemmas.Grind.{common_steps}
use Rattle.lines.proofs.verdict.plan_line.Goals as goal

-- twelve bytes of the subject and ten digits each at most, and the room was asked for
pub put_counted-requires : goal.put_counted-requires
put_counted-requires c = omega (arith, c.put_subject.ensures.short, c.in_ok-reserve.ensures.ok)

pub put_counted-requires-2 : goal.put_counted-requires-2
put_counted-requires-2 c = omega (arith, c.put_subject.ensures.short, c.put_counted.ensures.short, c.in_ok-reserve.ensures.ok)

pub put_counted-requires-3 : goal.put_counted-requires-3
put_counted-requires-3 c = omega (arith, c.put_subject.ensures.short, c.put_counted.ensures.short, c.put_counted-2.ensures.short, c.in_ok-reserve.ensures.ok)

pub push_reserved-requires : goal.push_reserved-requires
push_reserved-requires c = omega (arith, c.put_subject.ensures.short, c.put_counted.ensures.short, c.put_counted-2.ensures.short, c.put_counted-3.ensures.short, c.in_ok-reserve.ensures.ok)

pub returns : goal.returns
returns c = grind (arith, common_steps)
