use Rattle.std.proofs.Common.{◌<◌, ◌≤◌, arith}
use Rattle.std.proofs.Math.Nat.{pow-le-pow_right}
use Rattle.items.proofs.numerals.read_digits.Goals as goal

-- eighteen digits and less have been read before the last
pub overflow_mul-value : goal.overflow_mul-value
overflow_mul-value c =
    let few : c.loop-b.b-index ≤ 18 = omega arith in
    let some : 0 < 10 = omega arith in
    let top = pow-le-pow_right {n = 10} some few in
    omega arith

pub overflow_add-value : goal.overflow_add-value
overflow_add-value c =
    let few : c.loop-b.b-index ≤ 18 = omega arith in
    let some : 0 < 10 = omega arith in
    let top = pow-le-pow_right {n = 10} some few in
    omega (arith, c.if-not-is_ascii_digit.ensures.cases)
