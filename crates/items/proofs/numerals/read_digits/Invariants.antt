use Rattle.std.proofs.Common.{◌≡◌, ◌^◌, ◌<◌, drop}
use Rattle.items.specs.Numerals.{read_on}
use Rattle.items.proofs.numerals.read_digits.Given as goal

-- the digits left go on from the value so far, which has one digit for each byte read
abbrev pub invariant-loop-b : goal.invariant-loop-b
invariant-loop-b l = (read_on l.value (drop l.b-index l.bytes) ≡ read_on 0 l.bytes) × (l.value < 10 ^ l.b-index)
