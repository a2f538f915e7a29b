use Rattle.std.proofs.Common.{◌+◌, ◌/◌, ◌%◌, [], ◌∷◌, get_or, drop, vec_items, arith, append_assoc}
use Rattle.std.proofs.lemmas.List.{append-nil}
use Rattle.lines.specs.Texts.{hex_digit, hexed}
use Rattle.lines.proofs.Steps.{hexed_more, hexed_none, length_hexed}
use Rattle.lines.proofs.hex.put_hex.Goals as goal

pub loop-byte-preserved : goal.loop-byte-preserved
loop-byte-preserved c =
    let bytes = c.args.bytes.now in
    let i = c.loop-byte.byte-index in
    let b = get_or bytes i 0 in
    let more = hexed_more bytes i (omega arith) in
    let joins = append_assoc (vec_items c.loop-byte.out) (hex_digit (b / 16) ∷ (hex_digit (b % 16) ∷ [])) (hexed (drop (i + 1) bytes)) in
    (cc, omega arith, omega arith)

pub returns : goal.returns
returns c =
    let none = hexed_none c.args.bytes.now c.loop-byte.byte-index (omega arith) in
    let joins = append-nil (vec_items c.loop-byte.out) in
    let long = length_hexed c.args.bytes.now in
    record { appended = (cc, omega arith, omega arith); len = omega arith }
