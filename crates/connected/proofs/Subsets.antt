-- Parts of a set of k regions: what is missing, and how the number of members grows.
use Rattle.std.proofs.Common.{◌≡◌, ℕ, ◌+◌, ◌^◌, ◌<◌, ◌≤◌, ◌≢◌, ◌⊎◌, ap, ◌∙◌, inl, inr, arith}
use lib.Bits.{bit_and, bit_xor, xor_lt, xor_self}
use lib.Count.{count_trailing_zeros}
use Rattle.std.proofs.lemmas.Nat.{and_le_r}
use Rattle.std.proofs.lemmas.Bool.{cases_lt}
use Rattle.digits.specs.Bits.{bit}
use Rattle.digits.proofs.Digits.{bit_small, bit_zero, bit_past, bit-and, bit-xor, same_bits, trailing_is}
use Rattle.connected.specs.Connected.{Member, Within}

pub member_within : (g s i : ℕ) → Within g s → Member g i → Member s i
member_within g s i w m = omega (arith, w i, bit_small s i)

-- g lies within s exactly if it meets s in all of g
pub within_from_meet : (s g : ℕ) → bit_and s g ≡ g → Within g s
within_from_meet s g e j = omega (arith, ap (λ x. bit x j) e, bit-and s g j)

pub meet_from_within : (k s g : ℕ) → g < 2 ^ k → Within g s → bit_and s g ≡ g
meet_from_within k s g h w =
    same_bits k (bit_and s g) g (omega (arith, and_le_r s g)) h (λ j l. omega (arith, bit-and s g j, w j))

pub same_from_within : (k g s : ℕ) → g < 2 ^ k → s < 2 ^ k → Within g s → Within s g → g ≡ s
same_from_within k g s hg hs w v = same_bits k g s hg hs (λ j l. omega (arith, w j, v j))

-- the members of a set of k regions have numbers below k
pub below : (k s i : ℕ) → s < 2 ^ k → Member s i → i < k
below k s i h m = go (cases_lt i k)
  where
    go : (i < k) ⊎ (k ≤ i) → i < k
    go (inl l) = l
    go (inr l) = absurd (omega (arith, bit_past k s i h l))

-- two sets without a difference are one set
pub same_from_xor : (k g s : ℕ) → g < 2 ^ k → s < 2 ^ k → bit_xor g s ≡ 0 → g ≡ s
same_from_xor k g s hg hs e = same_bits k g s hg hs (λ j l. level j)
  where
    level : (j : ℕ) → bit g j ≡ bit s j
    level j = omega (arith, ap (λ y. bit y j) e, bit-xor g s j, bit_small g j, bit_small s j, bit_zero j)

pub apart_from_xor : (g s : ℕ) → bit_xor g s ≢ 0 → g ≢ s
apart_from_xor g s n e = n (ap (λ x. bit_xor x s) e ∙ xor_self s)

-- the lowest region of the difference is a member of one of the two
pub differ : (k g s : ℕ) → g < 2 ^ k → s < 2 ^ k → g ≢ s
    → (count_trailing_zeros k (bit_xor g s) < k) × (bit g (count_trailing_zeros k (bit_xor g s)) + bit s (count_trailing_zeros k (bit_xor g s)) ≡ 1)
differ k g s hg hs ne = (low.0, omega (arith, low.1, bit-xor g s i, bit_small g i, bit_small s i))
  where
    i : ℕ
    i = count_trailing_zeros k (bit_xor g s)

    some : 0 < bit_xor g s
    some = omega (arith, λ (e : bit_xor g s ≡ 0). ne (same_from_xor k g s hg hs e))

    low : (i < k) × (bit (bit_xor g s) i ≡ 1) × ((j : ℕ) → j < i → bit (bit_xor g s) j ≡ 0)
    low = trailing_is k (bit_xor g s) some (xor_lt k g s hg hs)
