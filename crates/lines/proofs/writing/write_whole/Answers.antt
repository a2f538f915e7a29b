use Rattle.std.proofs.Common.{◌++◌, take}
use Rattle.std.proofs.KnownBytes.{Appends-trans}
use Rattle.lines.proofs.Fronts.{moved_on}
use Rattle.lines.proofs.writing.write_whole.Goals as goal

pub writes-preserved : goal.writes-preserved
writes-preserved g c =
    let (front, split, gone) = c.writes.invariant in
    let rest = c.writes.rest.now in
    let n = c.in_ok-count.count in
    (front ++ take n rest, moved_on _ front rest n split, Appends-trans _ _ _ _ _ gone c.in_ok-count.ensures.bytes)
