-- A number on a line is the decimal of its value: what is read is what would be written.
use Rattle.std.proofs.Common.{◌≡◌, ℕ, ◌^◌, ◌<◌, ◌≤◌, Bool, true, false, leb, ◌≢◌, List, [], ◌∷◌, Some, None, decimal, Option, sym, refl, ap, ◌∙◌, arith}
use Rattle.std.specs.Char.{is_ascii_digit}
use Rattle.std.specs.List.{AllByRecursion}
use Rattle.std.specs.Str.{all_ascii_digits}
use Rattle.std.proofs.lemmas.Bool.{and_parts, leb-true, le-leb}
use Rattle.items.specs.Numerals.{number_of}
use Rattle.items.proofs.Decimal as decimals
use Rattle.items.proofs.Decimal.{clash, digits_in}
use Rattle.protocols.specs.Values.{at_most, number_at}

by_size : ℕ → ℕ → Bool → Option ℕ
by_size m n t = elim t [ true ↦ Some n | false ↦ None ]

most_is : (m : ℕ) (o : Option ℕ) (v : ℕ) → at_most m o ≡ Some v → (o ≡ Some v) × (v ≤ m)
unfolding by_size
most_is m None v e = clash v e
most_is m (Some n) v e = go (leb n m) refl
  where
    go : (t : Bool) → leb n m ≡ t → (Some n ≡ Some v) × (v ≤ m)
    go true f =
        let same : Some n ≡ Some v = sym (ap (by_size m n) f) ∙ e in
        let eq : n ≡ v = cc in
        let le = leb-true n m f in
        (same, omega arith)
    go false f = clash v (sym (ap (by_size m n) f) ∙ e)

is_most : (m v : ℕ) → v ≤ m → at_most m (Some v) ≡ Some v
unfolding by_size
is_most m v h = ap (by_size m v) (le-leb v m h)

-- what is read as a number is that number written in decimal
pub number_is : (m : ℕ) (bs : List ℕ) (v : ℕ) → number_at m bs ≡ Some v → (v ≤ m) × (bs ≡ decimal v)
unfolding number_at
number_is m bs v e =
    let got = most_is m (number_of 10 bs) v e in
    (got.1, (decimals.number_is 10 (omega arith) bs v got.0).1)

-- and a number written in decimal is read as itself
pub is_number : (m v : ℕ) → v ≤ m → m < 10 ^ 10 → number_at m (decimal v) ≡ Some v
unfolding number_at
is_number m v h small = ap (at_most m) (decimals.is_number 10 v (omega arith) (omega arith) (omega arith)) ∙ is_most m v h

-- no byte that is no digit stands in a number
digits_are : (c : ℕ) (ds : List ℕ) → is_ascii_digit c ≡ false → all_ascii_digits ds ≡ true → AllByRecursion (λ b. b ≢ c) ds
digits_are c [] n h = tt
digits_are c (d ∷ ds) n h =
    let p = and_parts (is_ascii_digit d) (all_ascii_digits ds) h in (
      λ same. let z : true ≡ false = sym p.0 ∙ ap is_ascii_digit same ∙ n in cc,
      digits_are c ds n p.1,
    )

pub decimal_without : (c v : ℕ) → is_ascii_digit c ≡ false → v < 10 ^ 10 → AllByRecursion (λ b. b ≢ c) (decimal v)
decimal_without c v n h = digits_are c (decimal v) n (digits_in v (omega arith))
