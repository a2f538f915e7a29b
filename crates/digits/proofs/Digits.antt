-- Laws of a number's binary digits. Assumes nothing.
use Rattle.std.proofs.Common.{◌≡◌, ℕ, zero, suc, ◌+◌, ◌-◌, ◌/◌, ◌%◌, ◌^◌, ◌<◌, ◌≤◌, min, max, false, cond, eqb, ltb, ◌≢◌, ◌⊎◌, sym, refl, ap, ◌∙◌, ap₂, inl, inr, lt_of_lt_of_le, mod-lt, pow-suc, one-add, arith, pow_pos, pow_mono, pow-add, shr-shr}
use native.Mathlib.Nat.{div-eq_of_lt, div_self}
use lib.Arith.{lt-one}
use lib.Bits.{bit_and, bit_or, bit_xor, and_step, or_step, xor_add_and, xor_assoc, xor_self, xor_zero_r, and_self, and_shr, or_shr, xor_shr, or_lt, xor_lt, and_mask}
use lib.Count.{ones, ones_step, count_trailing_zeros, under}
use lib.Pow.{pow-lt, shl-shr, field, mod-mod-pow}
use Rattle.std.proofs.lemmas.Bool.{cases_lt, cases_eq, cond-true, cond-false, lt-ltb, le-ltb, eqb-false}
use Rattle.digits.specs.Bits.{bit, count, with_digit, flip_digit}

-- ---- one digit

pub bit_small : (s i : ℕ) → bit s i ≤ 1
unfolding bit
bit_small s i = omega arith

pub bit_cases : (s i : ℕ) → (bit s i ≡ 0) ⊎ (bit s i ≡ 1)
bit_cases s i = go (bit s i) (bit_small s i)
  where
    go : (d : ℕ) → d ≤ 1 → (d ≡ 0) ⊎ (d ≡ 1)
    go zero h = inl refl
    go (suc d) h = inr (omega arith)

pub bit_first : (s : ℕ) → bit s 0 ≡ s % 2
unfolding bit
bit_first s = omega arith

pub bit_suc : (s i : ℕ) → bit s (suc i) ≡ bit (s / 2) i
unfolding bit
bit_suc s i = ap (λ (x : ℕ). x % 2) (ap (λ (x : ℕ). s / 2 ^ x) (sym (one-add i)) ∙ sym (shr-shr s 1 i))

-- no digit is set past the number's length
pub bit_past : (k s i : ℕ) → s < 2 ^ k → k ≤ i → bit s i ≡ 0
unfolding bit
bit_past k s i h l = ap (λ (x : ℕ). x % 2) (div-eq_of_lt (lt_of_lt_of_le h (pow_mono l)))

pub bit_zero : (i : ℕ) → bit 0 i ≡ 0
bit_zero i = bit_past i 0 i (pow_pos i) (omega arith)

-- as a program reads it: `(s >> i) & 1`
pub bit_test : (s i : ℕ) → bit_and (s / 2 ^ i) 1 ≡ bit s i
unfolding bit
bit_test s i = and_mask (s / 2 ^ i) 1

-- the same of a shift by any number of places, which gives 0 past the last
pub bit_test_any : (s i : ℕ) → s < 2 ^ 64 → bit_and (cond (ltb i 64) (s / 2 ^ i) 0) 1 ≡ bit s i
bit_test_any s i h = go (cases_lt i 64)
  where
    go : (i < 64) ⊎ (64 ≤ i) → bit_and (cond (ltb i 64) (s / 2 ^ i) 0) 1 ≡ bit s i
    go (inl l) = ap (λ (x : ℕ). bit_and x 1) (cond-true (ltb i 64) (s / 2 ^ i) 0 (lt-ltb i 64 l)) ∙ bit_test s i
    go (inr l) = ap (λ (x : ℕ). bit_and x 1) (cond-false (ltb i 64) (s / 2 ^ i) 0 (le-ltb i 64 l)) ∙ sym (bit_past 64 s i h l)

-- the digits after the first are those of the half
half_lt : (k s : ℕ) → s < 2 ^ suc k → s / 2 < 2 ^ k
half_lt k s h = omega (arith, pow-suc 2 k)

-- two numbers of k digits with the same digits are one number
pub same_bits : (k s t : ℕ) → s < 2 ^ k → t < 2 ^ k → ((i : ℕ) → i < k → bit s i ≡ bit t i) → s ≡ t
same_bits zero s t hs ht h = omega arith
same_bits (suc k) s t hs ht h =
    let rest = same_bits k (s / 2) (t / 2) (half_lt k s hs) (half_lt k t ht) (λ i l. sym (bit_suc s i) ∙ h (suc i) (omega arith) ∙ bit_suc t i) in
    omega (arith, h 0 (omega arith), bit_first s, bit_first t)

-- ---- the word operations, digit by digit

and_odd : (a b : ℕ) → bit_and a b % 2 ≡ min (a % 2) (b % 2)
and_odd a b = omega (arith, and_step a b)

or_odd : (a b : ℕ) → bit_or a b % 2 ≡ max (a % 2) (b % 2)
or_odd a b = omega (arith, or_step a b)

xor_odd : (a b : ℕ) → bit_xor a b % 2 ≡ (a % 2 + b % 2) % 2
xor_odd a b = omega (arith, xor_add_and a b)

pub bit-and : (s t i : ℕ) → bit (bit_and s t) i ≡ min (bit s i) (bit t i)
unfolding bit
bit-and s t i = ap (λ (x : ℕ). x % 2) (and_shr s t i) ∙ and_odd (s / 2 ^ i) (t / 2 ^ i)

pub bit-or : (s t i : ℕ) → bit (bit_or s t) i ≡ max (bit s i) (bit t i)
unfolding bit
bit-or s t i = ap (λ (x : ℕ). x % 2) (or_shr s t i) ∙ or_odd (s / 2 ^ i) (t / 2 ^ i)

pub bit-xor : (s t i : ℕ) → bit (bit_xor s t) i ≡ (bit s i + bit t i) % 2
unfolding bit
bit-xor s t i = ap (λ (x : ℕ). x % 2) (xor_shr s t i) ∙ xor_odd (s / 2 ^ i) (t / 2 ^ i)

-- ---- the k low digits

pub bit_mod : (k s i : ℕ) → i < k → bit (s % 2 ^ k) i ≡ bit s i
unfolding bit
bit_mod k s i h =
    let e : k ≡ ((k - suc i) + 1) + i = omega arith in
    ap (λ (x : ℕ). s % 2 ^ x / 2 ^ i % 2) e
    ∙ ap (λ (x : ℕ). x % 2) (field s ((k - suc i) + 1) i)
    ∙ mod-mod-pow (s / 2 ^ i) (k - suc i) 1

pub bit_mod_past : (k s i : ℕ) → k ≤ i → bit (s % 2 ^ k) i ≡ 0
bit_mod_past k s i h = bit_past k (s % 2 ^ k) i (mod-lt s (pow_pos k)) h

-- ---- a number with one digit set

pub bit_pow_same : (i : ℕ) → bit (2 ^ i) i ≡ 1
unfolding bit
bit_pow_same i = ap (λ (x : ℕ). x % 2) (div_self (pow_pos i))

bit_pow_below : (i j : ℕ) → j < i → bit (2 ^ i) j ≡ 0
unfolding bit
bit_pow_below i j l =
    let e : i ≡ suc (i - suc j) + j = omega arith in
    ap (λ (x : ℕ). 2 ^ x / 2 ^ j % 2) e
    ∙ ap (λ (x : ℕ). x / 2 ^ j % 2) (pow-add 2 (suc (i - suc j)) j)
    ∙ ap (λ (x : ℕ). x % 2) (shl-shr (2 ^ suc (i - suc j)) j)
    ∙ omega (arith, pow-suc 2 (i - suc j))

pub bit_pow_other : (i j : ℕ) → j ≢ i → bit (2 ^ i) j ≡ 0
bit_pow_other i j n = go (cases_lt i j)
  where
    go : (i < j) ⊎ (j ≤ i) → bit (2 ^ i) j ≡ 0
    go (inl l) = bit_past (suc i) (2 ^ i) j (pow-lt (omega arith)) l
    go (inr l) = bit_pow_below i j (omega arith)

-- ---- a digit set

pub or_pow_same : (s i : ℕ) → bit (bit_or s (2 ^ i)) i ≡ 1
or_pow_same s i = omega (arith, bit-or s (2 ^ i) i, bit_pow_same i, bit_small s i)

pub or_pow_other : (s i j : ℕ) → j ≢ i → bit (bit_or s (2 ^ i)) j ≡ bit s j
or_pow_other s i j n = omega (arith, bit-or s (2 ^ i) j, bit_pow_other i j n)

pub or_pow_lt : (k s i : ℕ) → s < 2 ^ k → i < k → bit_or s (2 ^ i) < 2 ^ k
or_pow_lt k s i h l = or_lt k s (2 ^ i) h (pow-lt l)

-- ---- a digit turned

pub flip_same : (s i : ℕ) → bit (bit_xor s (2 ^ i)) i ≡ 1 - bit s i
flip_same s i = omega (arith, bit-xor s (2 ^ i) i, bit_pow_same i, bit_small s i)

pub flip_other : (s i j : ℕ) → j ≢ i → bit (bit_xor s (2 ^ i)) j ≡ bit s j
flip_other s i j n = omega (arith, bit-xor s (2 ^ i) j, bit_pow_other i j n, bit_small s j)

pub flip_twice : (s i : ℕ) → bit_xor (bit_xor s (2 ^ i)) (2 ^ i) ≡ s
flip_twice s i = xor_assoc s (2 ^ i) (2 ^ i) ∙ ap (bit_xor s) (xor_self (2 ^ i)) ∙ xor_zero_r s

pub flip_lt : (k s i : ℕ) → s < 2 ^ k → i < k → bit_xor s (2 ^ i) < 2 ^ k
flip_lt k s i h l = xor_lt k s (2 ^ i) h (pow-lt l)

-- ---- what a caller makes of the contracts of `has`, `with` and `flip`

pub bit_off : (s i : ℕ) → eqb (bit s i) 1 ≡ false → bit s i ≡ 0
bit_off s i e = omega (arith, bit_small s i, eqb-false (bit s i) 1 e)

pub with_in : (s i : ℕ) → i < 64 → with_digit s i ≡ bit_or s (2 ^ i)
with_in s i h = cond-true (ltb i 64) (bit_or s (2 ^ i)) s (lt-ltb i 64 h)

pub flip_in : (s i : ℕ) → i < 64 → flip_digit s i ≡ bit_xor s (2 ^ i)
flip_in s i h = cond-true (ltb i 64) (bit_xor s (2 ^ i)) s (lt-ltb i 64 h)

-- ---- the lowest digit set

-- t is the place of the lowest: it is one of the k places, its digit is set, and none below it is
abbrev pub Lowest : ℕ → ℕ → ℕ → Type 0
Lowest k s t = (t < k) × (bit s t ≡ 1) × ((j : ℕ) → j < t → bit s j ≡ 0)

pub trailing_is : (k s : ℕ) → 0 < s → s < 2 ^ k → Lowest k s (count_trailing_zeros k s)
unfolding count_trailing_zeros
trailing_is zero s p h = absurd (omega arith)
trailing_is (suc k) s p h = go (s % 2) refl (λ q. trailing_is k (s / 2) q (half_lt k s h))
  where
    low : (t j : ℕ) → s % 2 ≡ 0 → ((i : ℕ) → i < t → bit (s / 2) i ≡ 0) → j < suc t → bit s j ≡ 0
    low t zero e none l = bit_first s ∙ e
    low t (suc j) e none l = bit_suc s j ∙ none j (omega arith)

    go : (d : ℕ) → s % 2 ≡ d → (0 < s / 2 → Lowest k (s / 2) (count_trailing_zeros k (s / 2))) → Lowest (suc k) s (under d (count_trailing_zeros k (s / 2)))
    go zero e rest =
        let t = count_trailing_zeros k (s / 2) in
        let r = rest (omega arith) in
        (omega arith, bit_suc s t ∙ r.1, λ j l. low t j e r.2 l)
    go (suc d) e rest = (omega arith, omega (arith, bit_first s), λ j l. absurd (omega arith))

-- `s & (s - 1)` turns it off
pub clear_flip : (k s : ℕ) → 0 < s → s < 2 ^ k → bit_and s (s - 1) ≡ bit_xor s (2 ^ count_trailing_zeros k s)
unfolding count_trailing_zeros
clear_flip zero s p h = absurd (omega arith)
clear_flip (suc k) s p h = go (s % 2) refl (λ q. clear_flip k (s / 2) q (half_lt k s h))
  where
    go : (d : ℕ) → s % 2 ≡ d → (0 < s / 2 → bit_and (s / 2) (s / 2 - 1) ≡ bit_xor (s / 2) (2 ^ count_trailing_zeros k (s / 2)))
        → bit_and s (s - 1) ≡ bit_xor s (2 ^ under d (count_trailing_zeros k (s / 2)))
    go zero e rest =
        let t = count_trailing_zeros k (s / 2) in
        let less : (s - 1) / 2 ≡ s / 2 - 1 = omega arith in
        let half : 2 ^ suc t / 2 ≡ 2 ^ t = omega (arith, pow-suc 2 t) in
        let high = and_shr s (s - 1) 1 ∙ ap (bit_and (s / 2)) less ∙ rest (omega arith) ∙ ap (bit_xor (s / 2)) (sym half) ∙ sym (xor_shr s (2 ^ suc t) 1) in
        omega (arith, and_odd s (s - 1), xor_odd s (2 ^ suc t), pow-suc 2 t)
    go (suc d) e rest =
        let less : (s - 1) / 2 ≡ s / 2 = omega arith in
        let high = and_shr s (s - 1) 1 ∙ ap (bit_and (s / 2)) less ∙ and_self (s / 2) ∙ sym (xor_shr s 1 1 ∙ xor_zero_r (s / 2)) in
        omega (arith, and_odd s (s - 1), xor_odd s 1)

-- ---- sums of values 0 and 1

pub count_ext : (k : ℕ) (f g : ℕ → ℕ) → ((i : ℕ) → i < k → f i ≡ g i) → count k f ≡ count k g
unfolding count
count_ext zero f g h = refl
count_ext (suc k) f g h = ap₂ (λ (x y : ℕ). x + y) (h k (omega arith)) (count_ext k f g (λ i l. h i (omega arith)))

-- the first value apart, where `count` takes the last apart
pub count_first : (k : ℕ) (f : ℕ → ℕ) → count (suc k) f ≡ f 0 + count k (λ i. f (suc i))
unfolding count
count_first zero f = refl
count_first (suc k) f = omega (arith, count_first k f)

pub count_le : (k : ℕ) (f : ℕ → ℕ) → ((i : ℕ) → i < k → f i ≤ 1) → count k f ≤ k
unfolding count
count_le zero f h = omega arith
count_le (suc k) f h = omega (arith, h k (omega arith), count_le k f (λ i l. h i (omega arith)))

pub count_zero : (k : ℕ) (f : ℕ → ℕ) → ((i : ℕ) → i < k → f i ≡ 0) → count k f ≡ 0
unfolding count
count_zero zero f h = refl
count_zero (suc k) f h = omega (arith, h k (omega arith), count_zero k f (λ i l. h i (omega arith)))

pub count_all : (k : ℕ) (f : ℕ → ℕ) → ((i : ℕ) → i < k → f i ≡ 1) → count k f ≡ k
unfolding count
count_all zero f h = refl
count_all (suc k) f h = omega (arith, h k (omega arith), count_all k f (λ i l. h i (omega arith)))

-- f and g differ at the place i alone: so do their sums
pub count_change : (k : ℕ) (f g : ℕ → ℕ) (i : ℕ) → i < k → ((j : ℕ) → j < k → j ≢ i → f j ≡ g j) → count k f + g i ≡ count k g + f i
unfolding count
count_change zero f g i l h = absurd (omega arith)
count_change (suc k) f g i l h = go (cases_eq k i) (λ m. count_change k f g i m (λ j n. h j (omega arith)))
  where
    go : (k ≡ i) ⊎ (k ≢ i) → (i < k → count k f + g i ≡ count k g + f i) → f k + count k f + g i ≡ g k + count k g + f i
    go (inl e) rest = omega (arith, ap f e, ap g e, count_ext k f g (λ j n. h j (omega arith) (λ d. omega arith)))
    go (inr n) rest = omega (arith, h k (omega arith) n, rest (omega arith))

-- ---- how many digits are set

pub ones_count : (k s : ℕ) → s < 2 ^ k → ones s ≡ count k (bit s)
unfolding count ones
ones_count zero s h = ap ones (lt-one h)
ones_count (suc k) s h =
    let rest = ones_count k (s / 2) (half_lt k s h) in
    let same = count_ext k (λ i. bit s (suc i)) (bit (s / 2)) (λ i l. bit_suc s i) in
    omega (arith, ones_step s, count_first k (bit s), bit_first s)

ones_flip : (k s i : ℕ) → s < 2 ^ k → i < k → ones (bit_xor s (2 ^ i)) + bit s i ≡ ones s + (1 - bit s i)
ones_flip k s i h l =
    let t = bit_xor s (2 ^ i) in
    omega (arith, ones_count k s h, ones_count k t (flip_lt k s i h l), count_change k (bit t) (bit s) i l (λ j m n. flip_other s i j n), flip_same s i)

pub ones_flip_in : (k s i : ℕ) → s < 2 ^ k → i < k → bit s i ≡ 0 → ones (bit_xor s (2 ^ i)) ≡ ones s + 1
ones_flip_in k s i h l e = omega (arith, ones_flip k s i h l)

pub ones_flip_out : (k s i : ℕ) → s < 2 ^ k → i < k → bit s i ≡ 1 → ones (bit_xor s (2 ^ i)) + 1 ≡ ones s
ones_flip_out k s i h l e = omega (arith, ones_flip k s i h l)
