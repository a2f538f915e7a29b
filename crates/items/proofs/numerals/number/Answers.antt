use Rattle.std.proofs.Common.{◌≡◌, ℕ, ◌^◌, ◌<◌, ◌≤◌, min, IfSome, None, Option, sym, subst, rules, arith}
use Rattle.items.specs.Numerals.{number_of, Writes}
use Rattle.items.proofs.Decimal.{number_within, number_writes}
use Rattle.items.proofs.numerals.number.Goals as goal

pub returns-clause-within : goal.returns-clause-within
returns-clause-within g c =
    let few : min g.row.MOST 19 ≤ 19 = omega arith in
    let is : c.read_digits.result ≡ number_of (min g.row.MOST 19) c.args.bytes.now = search rules in
    subst (λ o. IfSome o (λ n. n < 10 ^ min g.row.MOST 19)) (sym is) (number_within (min g.row.MOST 19) few c.args.bytes.now)

pub returns-clause-decimal : goal.returns-clause-decimal
returns-clause-decimal g c =
    let few : min g.row.MOST 19 ≤ 19 = omega arith in
    let is : c.read_digits.result ≡ number_of (min g.row.MOST 19) c.args.bytes.now = search rules in
    subst (λ o. Writes (min g.row.MOST 19) c.args.bytes.now o) (sym is) (number_writes (min g.row.MOST 19) few c.args.bytes.now)

pub returns-then-not-is_trim-clause-decimal : goal.returns-then-not-is_trim-clause-decimal
returns-then-not-is_trim-clause-decimal g c =
    let few : min g.row.MOST 19 ≤ 19 = omega arith in
    let is : ◌≡◌ {A = Option ℕ} None (number_of (min g.row.MOST 19) c.args.bytes.now) = search rules in
    subst (λ o. Writes (min g.row.MOST 19) c.args.bytes.now o) (sym is) (number_writes (min g.row.MOST 19) few c.args.bytes.now)
