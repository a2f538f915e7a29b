use Rattle.std.proofs.Common.{◌+◌, ◌/◌, ◌%◌, [], ◌∷◌, vec_items, decimal, append_assoc, arith}
use Rattle.std.proofs.lemmas.Fmt.{decimal_digit, decimal_step}
use Rattle.lines.proofs.Steps.{length_digit, length_step}
use Rattle.lines.proofs.parts.+put_number.Goals as goal

pub push_reserved-requires : goal.push_reserved-requires
push_reserved-requires t c = omega (arith, length_digit c.args.number (omega arith))

pub returns-then-number-lt10 : goal.returns-then-number-lt10
returns-then-number-lt10 t c =
    let one = decimal_digit c.args.number (omega arith) in
    let long = length_digit c.args.number (omega arith) in
    (cc, omega arith, omega arith)

pub put_number-requires : goal.put_number-requires
put_number-requires t c =
    let long = length_step c.args.number (omega arith) (omega arith) in
    (omega arith, omega arith)

pub push_reserved-requires-2 : goal.push_reserved-requires-2
push_reserved-requires-2 t c = omega (arith, length_step c.args.number (omega arith) (omega arith))

pub returns : goal.returns
returns t c =
    let n = c.args.number in
    let step = decimal_step n (omega arith) (omega arith) in
    let long = length_step n (omega arith) (omega arith) in
    let joins = append_assoc (vec_items c.args.out.now) (decimal (n / 10)) ((48 + n % 10) ∷ []) in
    (cc, omega arith, omega arith)
