use Rattle.std.proofs.Common.{◌<◌, ◌≤◌, length, vec_items, arith, ltb-false, ltb-true}
use Rattle.protocols.specs.Values.{bytes_of}
use Rattle.protocols.proofs.HexDigits.{decode_on, decode_end}
use Rattle.protocols.proofs.bytes.decode.Goals as goal

pub loop-rest-preserved : goal.loop-rest-preserved
loop-rest-preserved c =
    let long : 2 ≤ length c.loop-rest.rest.now = omega (arith, ltb-false) in
    decode_on (vec_items c.loop-rest.bytes) (vec_items c.push.new.self) c.loop-rest.rest.now (bytes_of c.args.digits.now)
    c.byte_value.result c.in_ok-push.ensures.items long c.byte_value.ensures c.loop-rest.invariant

pub returns : goal.returns
returns c =
    let short : length c.loop-rest.rest.now < 2 = omega (arith, ltb-true) in
    decode_end (vec_items c.loop-rest.bytes) c.loop-rest.rest.now (bytes_of c.args.digits.now) short c.loop-rest.invariant
