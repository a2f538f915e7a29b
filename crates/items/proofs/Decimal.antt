-- Digits that are read are the decimal of their number: what the reader takes is what would be written.
use Rattle.std.proofs.Common.{◌≡◌, ℕ, ◌+◌, ◌-◌, ◌*◌, ◌^◌, ◌<◌, ◌≤◌, Bool, true, false, ◌&&◌, ◌⊎◌, List, [], ◌∷◌, length, get_or, IfSome, Some, None, decimal, Option, sym, refl, ap, ◌∙◌, inl, inr, rules, arith}
use Rattle.std.proofs.Math.Nat.{pow-le-pow_right}
use Rattle.std.specs.Char.{is_ascii_digit}
use Rattle.std.specs.Str.{all_ascii_digits}
use Rattle.std.proofs.lemmas.Fmt.{digits_decimal, digits_value-decimal, length-decimal-le, decimal_nonempty, decimal_digit, first_decimal, decimal-digits_value}
use Rattle.std.proofs.lemmas.Str.Parse.{IsNumeralModel, numerals_by_fold, digits_value_short}
use Rattle.std.proofs.lemmas.Bool.{and_parts, and_from, cases_eq}
use Rattle.std.proofs.lemmas.Bool.Decides.{nat_tests}
use Rattle.items.specs.Numerals.{most_digits, read_on, trim, number_of, numeral_of, Writes}

-- no number comes of nothing
pub clash : {X : Type 0} (x : X) {Y : Type 0} → None ≡ Some x → Y
clash x e = cc

-- the number that digits write, whatever the bytes are
value_on : ℕ → List ℕ → ℕ
value_on n [] = n
value_on n (b ∷ bs) = value_on (n * 10 + (b - 48)) bs

own : IsNumeralModel (λ ds. all_ascii_digits ds ≡ true) (value_on 0)
unfolding value_on
own = numerals_by_fold _ (search rules) value_on (search rules)

-- reading on succeeds on digits alone, with their value
read_digits : (n : ℕ) (ds : List ℕ) → all_ascii_digits ds ≡ true → read_on n ds ≡ Some (value_on n ds)
unfolding value_on
read_digits n [] h = refl
read_digits n (b ∷ bs) h =
    let p = and_parts (is_ascii_digit b) (all_ascii_digits bs) h in
    ap (λ t. elim t as (λ _. Option ℕ) [ true ↦ read_on (n * 10 + (b - 48)) bs | false ↦ None ]) p.0
    ∙ read_digits (n * 10 + (b - 48)) bs p.1

digits_read : (n : ℕ) (ds : List ℕ) (v : ℕ) → read_on n ds ≡ Some v → all_ascii_digits ds ≡ true
digits_read n [] v e = refl
digits_read n (b ∷ bs) v e = go (is_ascii_digit b) refl (digits_read (n * 10 + (b - 48)) bs v)
  where
    at : Bool → Option ℕ
    at t = elim t [ true ↦ read_on (n * 10 + (b - 48)) bs | false ↦ None ]

    go : (t : Bool) → is_ascii_digit b ≡ t → (read_on (n * 10 + (b - 48)) bs ≡ Some v → all_ascii_digits bs ≡ true)
        → (is_ascii_digit b && all_ascii_digits bs) ≡ true
    go true f ih = and_from (is_ascii_digit b) (all_ascii_digits bs) f (ih (sym (ap at f) ∙ e))
    go false f ih = clash v (sym (ap at f) ∙ e)

by_trim : List ℕ → Bool → Option ℕ
by_trim bs t = elim t [ true ↦ read_on 0 bs | false ↦ None ]

-- the three tests of the digits' count and of the first of them
abbrev Trimmed : ℕ → List ℕ → Type 0
Trimmed m bs = (1 ≤ length bs) × (length bs ≤ m) × ((get_or bs 0 0 ≡ 48) → length bs ≡ 1)

trimmed : (m : ℕ) (bs : List ℕ) → trim m bs ≡ true → Trimmed m bs
trimmed m bs e = grind (arith, nat_tests)

trim_from : (m : ℕ) (bs : List ℕ) → Trimmed m bs → trim m bs ≡ true
trim_from m bs h = grind (arith, nat_tests)

-- what is read as a number of at most m digits is that number written in decimal
pub number_is : (m : ℕ) → m ≤ 19 → (bs : List ℕ) (v : ℕ) → number_of m bs ≡ Some v → (v < 10 ^ m) × (bs ≡ decimal v)
unfolding by_trim
number_is m few bs v e = go (trim m bs) refl
  where
    go : (t : Bool) → trim m bs ≡ t → (v < 10 ^ m) × (bs ≡ decimal v)
    go true f =
        let h = trimmed m bs f in
        let read : read_on 0 bs ≡ Some v = sym (ap (by_trim bs) f) ∙ e in
        let all = digits_read 0 bs v read in
        let got : Some (value_on 0 bs) ≡ Some v = sym (read_digits 0 bs all) ∙ read in
        let same : value_on 0 bs ≡ v = cc in
        let small = digits_value_short own bs m all h.1 in
        let fits = digits_value_short own bs 19 all (omega arith) in
        (omega arith, sym (decimal-digits_value own bs all h.0 h.2 (omega arith)) ∙ ap decimal same)
    go false f = clash v (sym (ap (by_trim bs) f) ∙ e)

pub number_within : (m : ℕ) → m ≤ 19 → (bs : List ℕ) → IfSome (number_of m bs) (λ n. n < 10 ^ m)
number_within m few bs = go (number_of m bs) refl
  where
    go : (o : Option ℕ) → number_of m bs ≡ o → IfSome o (λ n. n < 10 ^ m)
    go None e = tt
    go (Some v) e = (number_is m few bs v e).0

-- a number of at most 19 digits is below 2 ^ 64
fits_wide : (m v : ℕ) → m ≤ 19 → v < 10 ^ m → v < 2 ^ 64
fits_wide m v few h =
    let some : 0 < 10 = omega arith in
    let top = pow-le-pow_right {n = 10} some few in
    omega arith

-- a decimal has digits alone
pub digits_in : (v : ℕ) → v < 2 ^ 64 → all_ascii_digits (decimal v) ≡ true
digits_in v h = digits_decimal own v h

decimal_trimmed : (m v : ℕ) → 0 < m → v < 10 ^ m → v < 2 ^ 64 → Trimmed m (decimal v)
decimal_trimmed m v some small h = (
  decimal_nonempty v h,
  length-decimal-le m v some small h,
  λ zero. go (cases_eq v 0) zero,
)
  where
    go : (v ≡ 0) ⊎ (v ≡ 0 → ⊥) → get_or (decimal v) 0 0 ≡ 48 → length (decimal v) ≡ 1
    go (inl e) zero = ap (λ n. length (decimal n)) e ∙ ap length (decimal_digit 0 (omega arith))
    go (inr ne) zero = let first = first_decimal v (omega arith) h in absurd (omega arith)

-- and a number of at most m digits is read as itself
pub is_number : (m v : ℕ) → 0 < m → m ≤ 19 → v < 10 ^ m → number_of m (decimal v) ≡ Some v
unfolding by_trim
is_number m v some few small =
    let h = fits_wide m v few small in
    ap (by_trim (decimal v)) (trim_from m (decimal v) (decimal_trimmed m v some small h))
    ∙ read_digits 0 (decimal v) (digits_in v h) ∙ ap Some (digits_value-decimal own v h)

pub number_writes : (m : ℕ) → m ≤ 19 → (bs : List ℕ) → Writes m bs (number_of m bs)
unfolding by_trim
number_writes m few bs v = (
  λ e. let n = number_is m few bs v e in (some (trim m bs) refl e, n.0, n.1),
  λ h. ap (number_of m) h.2 ∙ is_number m v h.0 few h.1,
)
  where
    some : (t : Bool) → trim m bs ≡ t → number_of m bs ≡ Some v → 1 ≤ m
    some true f e = let h = trimmed m bs f in omega (arith, h)
    some false f e = clash v (sym (ap (by_trim bs) f) ∙ e)

pub numeral_is : (bs : List ℕ) (v : ℕ) → numeral_of bs ≡ Some v → (v < 10 ^ most_digits) × (bs ≡ decimal v)
numeral_is bs v e = number_is most_digits (omega arith) bs v e

pub is_numeral : (v : ℕ) → v < 10 ^ most_digits → numeral_of (decimal v) ≡ Some v
is_numeral v h = is_number most_digits v (omega arith) (omega arith) h
