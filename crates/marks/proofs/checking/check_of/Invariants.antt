use Rattle.std.proofs.Common.{◌≡◌, ◌+◌, ◌*◌, ◌≤◌, drop}
use Rattle.marks.specs.Layout.{weigh}
use Rattle.marks.proofs.checking.check_of.Given as goal

-- what is left makes up the sum; no byte adds more than 508 * 255
abbrev pub invariant-loop-index : goal.invariant-loop-index
invariant-loop-index l =
    (l.sum ≤ 129540 * l.index)
    × (l.sum + weigh l.index (drop l.index l.body) ≡ weigh 0 l.body)
