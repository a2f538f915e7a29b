use Rattle.std.proofs.Common.{◌≡◌, ◌+◌, ◌*◌, ◌≤◌, ◌++◌, drop, vec_items, vec_len, vec_capacity}
use Rattle.lines.specs.Texts.{hexed}
use Rattle.lines.proofs.hex.put_hex.Given as goal

-- what is written, and the digits still to come, make up the whole
abbrev pub invariant-loop-byte : goal.invariant-loop-byte
invariant-loop-byte l =
    (vec_items l.out ++ hexed (drop l.byte-index l.bytes) ≡ vec_items l.initial.out ++ hexed l.bytes)
    × (vec_len l.out ≡ vec_len l.initial.out + 2 * l.byte-index)
    × (vec_capacity l.initial.out ≤ vec_capacity l.out)
