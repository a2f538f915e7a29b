use Rattle.std.proofs.Common.{rules, arith}
use Rattle.std.proofs.lemmas.List.{length-replicate}
use Rattle.protocols.proofs.Arrays.{decoded_done, decoded_more, decoded_start, other_length}
use Rattle.protocols.proofs.bytes.array_of.Goals as goal

pub returns-then-digits : goal.returns-then-digits
returns-then-digits g c = other_length c.args.digits.now g.row.N (omega (arith, c.if-digits.true))

pub loop-place-init : goal.loop-place-init
loop-place-init g c = decoded_start c.args.digits.now g.row.N _ (length-replicate g.row.N 0) c.if-digits.false

pub loop-place-preserved : goal.loop-place-preserved
loop-place-preserved g c =
    decoded_more c.args.digits.now g.row.N c.loop-place.place c.loop-place.bytes c.byte_value.result c.loop-place-test.true (search rules) c.loop-place.invariant

pub returns : goal.returns
returns g c = decoded_done c.args.digits.now g.row.N c.loop-place.place c.loop-place.bytes c.loop-place-test.false c.loop-place.invariant
