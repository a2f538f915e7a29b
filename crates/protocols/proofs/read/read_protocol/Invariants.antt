use Rattle.std.proofs.Common.{◌≡◌, ◌+◌, ◌*◌, ◌≤◌, map, length, vec_items, vec_len}
use Rattle.engine.specs.Runs.{order_of}
use Rattle.protocols.specs.Reading.{ordered, requests_in}
use Rattle.protocols.proofs.Turns.{read_on}
use Rattle.protocols.proofs.read.read_protocol.Given as goal

-- the calls so far and what is left give what the whole gives; each line has two bytes and more
abbrev pub invariant-loop-line : goal.invariant-loop-line
invariant-loop-line l =
    (read_on (map order_of (vec_items l.calls)) (vec_len l.calls + 1) l.rest ≡ ordered (requests_in l.bytes))
    × (2 * vec_len l.calls + length l.rest ≤ length l.bytes)

abbrev pub decreases-loop-line : goal.decreases-loop-line
decreases-loop-line l = length l.rest
