-- The digits of the number that a row of bytes writes stand in its bytes, eight in each.
use Rattle.std.proofs.Common.{◌≡◌, ℕ, suc, ◌+◌, ◌-◌, ◌*◌, ◌/◌, ◌%◌, ◌^◌, ◌<◌, ◌≤◌, ◌⊎◌, List, [], ◌∷◌, get_or, sym, ap, ap₂, ◌∙◌, inl, inr, arith, shr-shr}
use Rattle.std.specs.List.{AllByRecursion}
use Rattle.std.proofs.lemmas.Bool.{cases_lt}
use Rattle.digits.specs.Bits.{bit}
use Rattle.digits.proofs.Digits.{bit_mod, bit_zero}
use Rattle.masks.specs.Codes.{number, row_digit}

-- a byte in front holds the first eight digits, and the others come eight later
front_low : (b m i : ℕ) → b < 256 → i < 8 → bit (b + 256 * m) i ≡ bit b i
front_low b m i small l =
    let low : (b + 256 * m) % 2 ^ 8 ≡ b = omega arith in
    sym (bit_mod 8 (b + 256 * m) i l) ∙ ap (λ x. bit x i) low

front_high : (b m i : ℕ) → b < 256 → 8 ≤ i → bit (b + 256 * m) i ≡ bit m (i - 8)
unfolding bit
front_high b m i small l =
    let high : (b + 256 * m) / 2 ^ 8 ≡ m = omega arith in
    let place : 8 + (i - 8) ≡ i = omega arith in
    ap (λ k. (b + 256 * m) / 2 ^ k % 2) (sym place)
    ∙ ap (λ x. x % 2) (sym (shr-shr (b + 256 * m) 8 (i - 8)))
    ∙ ap (λ x. x / 2 ^ (i - 8) % 2) high

pub number_digits : (row : List ℕ) → AllByRecursion (λ b. b < 256) row → (i : ℕ) → bit (number row) i ≡ row_digit row i
unfolding number
number_digits [] h i = bit_zero i ∙ sym (bit_zero (i % 8))
number_digits (b ∷ bs) h i = go (cases_lt i 8) (number_digits bs h.1 (i - 8))
  where
    go : (i < 8) ⊎ (8 ≤ i) → bit (number bs) (i - 8) ≡ row_digit bs (i - 8) → bit (b + 256 * number bs) i ≡ row_digit (b ∷ bs) i
    go (inl l) rest =
        let first : i / 8 ≡ 0 = omega arith in
        let same : i % 8 ≡ i = omega arith in
        front_low b (number bs) i h.0 l ∙ sym (ap₂ (λ x y. bit (get_or (b ∷ bs) x 0) y) first same)
    go (inr l) rest =
        let later : i / 8 ≡ suc ((i - 8) / 8) = omega arith in
        let same : i % 8 ≡ (i - 8) % 8 = omega arith in
        front_high b (number bs) i h.0 l ∙ rest ∙ sym (ap₂ (λ x y. bit (get_or (b ∷ bs) x 0) y) later same)
