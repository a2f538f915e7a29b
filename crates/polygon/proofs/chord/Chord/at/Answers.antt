use Rattle.polygon.proofs.Holding.{corners_limit}
use Rattle.polygon.proofs.chord.Chord.at.Goals as goal

pub invariant_of-result : goal.invariant_of-result
invariant_of-result c =
    let s = corners_limit c.args.e c.corners-a.result c.corners-a.ensures.value in
    record { ordered = s.0; within = s.1 }
