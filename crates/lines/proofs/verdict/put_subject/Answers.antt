use Rattle.std.proofs.Common.{arith}
use Rattle.lines.proofs.Steps.{length_word}
use Rattle.lines.proofs.verdict.put_subject.Goals as goal

pub returns-in-Regions-clause-short : goal.returns-in-Regions-clause-short
returns-in-Regions-clause-short c =
    rw c.in-Regions.is (omega (arith, length_word c.in-Regions.map.n (omega (arith, c.regions.ensures.value))))

pub returns-in-Polygon-clause-short : goal.returns-in-Polygon-clause-short
returns-in-Polygon-clause-short c = rw c.in-Polygon.is (omega (arith, c.put_counted-in-Polygon.ensures.short))
