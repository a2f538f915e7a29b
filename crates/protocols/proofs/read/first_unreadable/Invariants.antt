use Rattle.std.proofs.Common.{◌≡◌, ◌+◌, ◌≤◌, length}
use Rattle.protocols.specs.Reading.{requests_in, unreadable_of}
use Rattle.protocols.proofs.Firsts.{unreadable_from}
use Rattle.protocols.proofs.read.first_unreadable.Given as goal

-- what is left gives what the whole gives; each line has a byte and more
abbrev pub invariant-loop-behind : goal.invariant-loop-behind
invariant-loop-behind l =
    (unreadable_from l.number l.rest ≡ unreadable_of (requests_in l.bytes))
    × (l.number + length l.rest ≤ 1 + length l.bytes)

abbrev pub decreases-loop-behind : goal.decreases-loop-behind
decreases-loop-behind l = length l.rest
