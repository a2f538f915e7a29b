use Rattle.std.proofs.Common.{arith, rules}
use Rattle.maps.specs.Touch.{bare}
use Rattle.maps.proofs.Tables.{mutual_bare, inside_bare, begun_good}
use Rattle.maps.proofs.draft.Draft.new.Goals as goal

pub invariant_of-result : goal.invariant_of-result
unfolding bare
invariant_of-result c = record { some = omega arith; few = omega arith; «mutual» = mutual_bare; inside = inside_bare c.args.n }

pub returns : goal.returns
unfolding bare
returns c = begun_good c.args.n (omega arith) (omega arith)

pub returns-then-n-lt1 : goal.returns-then-n-lt1
returns-then-n-lt1 c = search rules
