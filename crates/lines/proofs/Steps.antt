-- The digits of a list of bytes, step by step. Assumes nothing.
use Rattle.std.proofs.Common.{◌≡◌, ℕ, ◌+◌, ◌*◌, ◌/◌, ◌%◌, ◌^◌, ◌<◌, ◌≤◌, List, [], ◌∷◌, length, get_or, drop, decimal, refl, ap, ◌∙◌, length-append, arith}
use Rattle.std.proofs.lemmas.Fmt.{decimal_digit, decimal_step, length-decimal-le}
use Rattle.std.proofs.lemmas.List.{at_drop_more, at_drop_all}
use Rattle.lines.specs.Texts.{hex_digit, hexed}

-- the digits of what is left, one byte on and at the end
pub hexed_more : (bs : List ℕ) (i : ℕ) → i < length bs
    → hexed (drop i bs) ≡ hex_digit (get_or bs i 0 / 16) ∷ (hex_digit (get_or bs i 0 % 16) ∷ hexed (drop (i + 1) bs))
unfolding hexed
hexed_more bs i h = at_drop_more hexed bs i 0 h

pub hexed_none : (bs : List ℕ) (i : ℕ) → length bs ≤ i → hexed (drop i bs) ≡ []
unfolding hexed
hexed_none bs i h = at_drop_all hexed bs i h

-- two digits a byte
pub length_hexed : (bs : List ℕ) → length (hexed bs) ≡ 2 * length bs
unfolding hexed
length_hexed [] = refl
length_hexed (b ∷ bs) = let rest = length_hexed bs in omega arith

-- how many digits a number has
pub length_byte : (n : ℕ) → n < 2 ^ 8 → length (decimal n) ≤ 3
length_byte n h = length-decimal-le 3 n (omega arith) (omega arith) (omega arith)

pub length_word : (n : ℕ) → n < 2 ^ 32 → length (decimal n) ≤ 10
length_word n h = length-decimal-le 10 n (omega arith) (omega arith) (omega arith)

pub length_long : (n : ℕ) → n < 2 ^ 64 → length (decimal n) ≤ 20
length_long n h = length-decimal-le 20 n (omega arith) (omega arith) h

pub length_digit : (n : ℕ) → n < 10 → length (decimal n) ≡ 1
length_digit n h = ap length (decimal_digit n h)

pub length_step : (n : ℕ) → 10 ≤ n → n < 2 ^ 64 → length (decimal n) ≡ length (decimal (n / 10)) + 1
length_step n l h = ap length (decimal_step n l h) ∙ length-append (decimal (n / 10)) ((48 + n % 10) ∷ [])
