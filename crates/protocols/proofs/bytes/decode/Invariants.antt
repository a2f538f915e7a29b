use Rattle.std.proofs.Common.{◌≡◌, ◌++◌, length, vec_items}
use Rattle.protocols.specs.Values.{bytes_of}
use Rattle.protocols.proofs.bytes.decode.Given as goal

-- the bytes so far and those of the digits left are all bytes
abbrev pub invariant-loop-rest : goal.invariant-loop-rest
invariant-loop-rest l = vec_items l.bytes ++ bytes_of l.rest ≡ bytes_of l.digits

abbrev pub decreases-loop-rest : goal.decreases-loop-rest
decreases-loop-rest l = length l.rest
