use Rattle.std.proofs.Common.{arith}
use Rattle.std.proofs.lemmas.Bool.Decides.{nat_tests}
use Rattle.triangulations.specs.Polygon.{is_diagonal, is_side}
use Rattle.polygon.proofs.outline.Outline.is_diagonal.Goals as goal

pub returns-then-a-b : goal.returns-then-a-b
unfolding is_diagonal is_side
returns-then-a-b c = let h = c.then-a-b.either in grind (arith, nat_tests)

pub returns-then-b-a : goal.returns-then-b-a
unfolding is_diagonal is_side
returns-then-b-a c = grind (arith, nat_tests)

pub returns-then-a-gt0 : goal.returns-then-a-gt0
unfolding is_diagonal is_side
returns-then-a-gt0 c = grind (arith, nat_tests)

pub returns-else-a-gt0 : goal.returns-else-a-gt0
unfolding is_diagonal is_side
returns-else-a-gt0 c = grind (arith, nat_tests)
