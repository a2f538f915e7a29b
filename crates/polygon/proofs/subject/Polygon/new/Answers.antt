use Rattle.std.proofs.Common.{refl, ap, arith, rules}
use Rattle.triangulations.proofs.Sides.{stands}
use Rattle.triangulations.specs.Codes.{code_of}
use Rattle.polygon.proofs.Begun.{begun_good, fan_settled}
use Rattle.polygon.proofs.subject.Polygon.new.Goals as goal

pub invariant_of-result : goal.invariant_of-result
invariant_of-result c =
    let s = fan_settled c.fan_rows-rows.ensures (omega arith) (omega arith) in
    record { whole = s.whole; tied = s.tied }

pub returns : goal.returns
returns c =
    let n = c.args.n in
    let s = fan_settled c.fan_rows-rows.ensures (omega arith) (omega arith) in
    record { made = begun_good n _ (omega arith) (omega arith) (ap code_of s.same); range = (λ h. (omega arith, omega arith), λ h. refl); sound = tt; stands = stands n (omega arith) (omega arith) }

pub returns-then-n-lt3-clause-made : goal.returns-then-n-lt3-clause-made
returns-then-n-lt3-clause-made c = search rules
