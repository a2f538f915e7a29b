-- Words of digits.
use Rattle.std.proofs.Common.{◌≡◌, ℕ, zero, suc, ◌+◌, ◌-◌, ◌/◌, ◌%◌, ◌^◌, ◌<◌, ◌≤◌, ◌⊎◌, sym, ap, ◌∙◌, refl, inl, inr, lt_of_lt_of_le, lt_of_le_of_lt, mod-lt, pow-suc, arith, pow_pos, pow_mono, shr-shr}
use lib.Bits.{bit_and, bit_xor, and_le_l}
use lib.Count.{count_trailing_zeros}
use Rattle.std.proofs.lemmas.Bool.{cases_lt, cases_eq}
use Rattle.digits.proofs.Digits.{bit-and, bit_small, bit_first, bit_suc, bit_zero, bit_past, bit_mod, bit_mod_past, same_bits, Lowest, trailing_is, clear_flip, flip_same, flip_other, flip_lt}
use Rattle.digits.specs.Bits.{bit}

-- ---- how long a word is

self_less : (s : ℕ) → s < 2 ^ s
self_less zero = omega arith
self_less (suc s) = omega (arith, self_less s, pow-suc 2 s)

-- a number with no digit from place k on
pub bits_limit : (k s : ℕ) → ((i : ℕ) → k ≤ i → bit s i ≡ 0) → s < 2 ^ k
bits_limit k s h =
    let less = lt_of_lt_of_le (self_less s) (pow_mono {i = s} {j = k + s} (omega arith)) in
    let low = mod-lt s (pow_pos k) in
    let same = same_bits (k + s) s (s % 2 ^ k) less (lt_of_lt_of_le low (pow_mono {i = k} {j = k + s} (omega arith))) (λ i l. each i (cases_lt i k)) in
    omega arith
  where
    each : (i : ℕ) → (i < k) ⊎ (k ≤ i) → bit s i ≡ bit (s % 2 ^ k) i
    each i (inl l) = sym (bit_mod k s i l)
    each i (inr l) = h i l ∙ sym (bit_mod_past k s i l)

pub bit_positive : (s i : ℕ) → bit s i ≡ 1 → 0 < s
bit_positive s i e = go (cases_lt 0 s)
  where
    go : (0 < s) ⊎ (s ≤ 0) → 0 < s
    go (inl h) = h
    go (inr h) = let z : s ≡ 0 = omega arith in absurd (omega (arith, ap (λ (x : ℕ). bit x i) z, bit_zero i))

pub bit_shr : (s i j : ℕ) → bit (s / 2 ^ i) j ≡ bit s (i + j)
unfolding bit
bit_shr s i j = ap (λ (x : ℕ). x % 2) (shr-shr s i j)

-- ---- words of ones

pub bit_ones : (k i : ℕ) → i < k → bit (2 ^ k - 1) i ≡ 1
bit_ones zero i h = absurd (omega arith)
bit_ones (suc k) zero h = omega (arith, bit_first (2 ^ suc k - 1), pow-suc 2 k, pow_pos k)
bit_ones (suc k) (suc i) h =
    let half : (2 ^ suc k - 1) / 2 ≡ 2 ^ k - 1 = omega (arith, pow-suc 2 k, pow_pos k) in
    bit_suc (2 ^ suc k - 1) i ∙ ap (λ (x : ℕ). bit x i) half ∙ bit_ones k i (omega arith)

half_others : (m : ℕ) → (2 ^ suc m - 2) / 2 ≡ 2 ^ m - 1
half_others m = omega (arith, pow-suc 2 m, pow_pos m)

pub bit_others : (n i : ℕ) → 0 < n → 0 < i → i < n → bit (2 ^ n - 2) i ≡ 1
bit_others zero i p h l = absurd (omega arith)
bit_others (suc m) zero p h l = absurd (omega arith)
bit_others (suc m) (suc i) p h l =
    bit_suc (2 ^ suc m - 2) i ∙ ap (λ (x : ℕ). bit x i) (half_others m) ∙ bit_ones m i (omega arith)

pub bit_others_first : (n : ℕ) → 0 < n → bit (2 ^ n - 2) 0 ≡ 0
bit_others_first zero p = absurd (omega arith)
bit_others_first (suc m) p = omega (arith, bit_first (2 ^ suc m - 2), pow-suc 2 m, pow_pos m)

pub bit_others_past : (n i : ℕ) → n ≤ i → bit (2 ^ n - 2) i ≡ 0
bit_others_past n i h = bit_past n (2 ^ n - 2) i (omega (arith, pow_pos n)) h

-- ---- the two ones of a word that has two

module _ (s p q : ℕ) (limit : s < 2 ^ 32) (order : p < q) (first : bit s p ≡ 1) (second : bit s q ≡ 1)
    (only : (x : ℕ) → bit s x ≡ 1 → (x ≡ p) ⊎ (x ≡ q)) where
  low : Lowest 32 s (count_trailing_zeros 32 s)
  low = trailing_is 32 s (bit_positive s p first) limit

  pub low_is : count_trailing_zeros 32 s ≡ p
  low_is = go (only (count_trailing_zeros 32 s) low.1)
    where
      go : (count_trailing_zeros 32 s ≡ p) ⊎ (count_trailing_zeros 32 s ≡ q) → count_trailing_zeros 32 s ≡ p
      go (inl e) = e
      go (inr e) = absurd (omega (arith, low.2 p (omega arith)))

  -- without the lowest
  rest : bit_and s (s - 1) ≡ bit_xor s (2 ^ p)
  rest = clear_flip 32 s (bit_positive s p first) limit ∙ ap (λ (x : ℕ). bit_xor s (2 ^ x)) low_is

  rest-second : bit (bit_xor s (2 ^ p)) q ≡ 1
  rest-second = flip_other s p q (λ e. omega arith) ∙ second

  rest-only : (x : ℕ) → bit (bit_xor s (2 ^ p)) x ≡ 1 → x ≡ q
  rest-only x e = go (cases_eq x p)
    where
      pick : (x ≡ p) ⊎ (x ≡ q) → (x ≡ p → ⊥) → x ≡ q
      pick (inl h) n = absurd (n h)
      pick (inr h) n = h

      go : (x ≡ p) ⊎ (x ≡ p → ⊥) → x ≡ q
      go (inl h) = absurd (omega (arith, ap (bit (bit_xor s (2 ^ p))) h, flip_same s p))
      go (inr h) = pick (only x (sym (flip_other s p x h) ∙ e)) h

  pub high_is : count_trailing_zeros 32 (bit_and s (s - 1)) ≡ q
  high_is =
      let p-in : p < 32 = omega (arith, low.0, low_is) in
      ap (count_trailing_zeros 32) rest
      ∙ rest-only (count_trailing_zeros 32 (bit_xor s (2 ^ p)))
      (trailing_is 32 (bit_xor s (2 ^ p)) (bit_positive (bit_xor s (2 ^ p)) q rest-second) (flip_lt 32 s p limit p-in)).1

-- ---- the second one of any word

module _ (s : ℕ) (limit : s < 2 ^ 32) (second : count_trailing_zeros 32 (bit_and s (s - 1)) < 32) where
  pub second_positive : 0 < s
  unfolding count_trailing_zeros
  second_positive = go (cases_lt 0 s)
    where
      go : (0 < s) ⊎ (s ≤ 0) → 0 < s
      go (inl h) = h
      go (inr h) =
          let z : s ≡ 0 = omega arith in
          let none : count_trailing_zeros 32 (bit_and 0 (0 - 1)) ≡ 32 = refl in
          absurd (omega (arith, ap (λ (x : ℕ). count_trailing_zeros 32 (bit_and x (x - 1))) z, none))

  rest-positive : 0 < bit_and s (s - 1)
  unfolding count_trailing_zeros
  rest-positive = go (cases_lt 0 (bit_and s (s - 1)))
    where
      go : (0 < bit_and s (s - 1)) ⊎ (bit_and s (s - 1) ≤ 0) → 0 < bit_and s (s - 1)
      go (inl h) = h
      go (inr h) =
          let z : bit_and s (s - 1) ≡ 0 = omega arith in
          let none : count_trailing_zeros 32 0 ≡ 32 = refl in
          absurd (omega (arith, ap (count_trailing_zeros 32) z, none))

  pub second_later : count_trailing_zeros 32 s ≤ count_trailing_zeros 32 (bit_and s (s - 1))
  second_later = go (cases_lt (count_trailing_zeros 32 (bit_and s (s - 1))) (count_trailing_zeros 32 s))
    where
      q : ℕ
      q = count_trailing_zeros 32 (bit_and s (s - 1))

      here : bit (bit_and s (s - 1)) q ≡ 1
      here = (trailing_is 32 (bit_and s (s - 1)) rest-positive (lt_of_le_of_lt (and_le_l s (s - 1)) limit)).1

      go : (q < count_trailing_zeros 32 s) ⊎ (count_trailing_zeros 32 s ≤ q) → count_trailing_zeros 32 s ≤ q
      go (inl h) =
          absurd (omega (arith, here, bit-and s (s - 1) q, bit_small (s - 1) q, (trailing_is 32 s second_positive limit).2 q h))
      go (inr h) = h
