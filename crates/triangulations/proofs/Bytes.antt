-- Sets and their codes.
use Rattle.std.proofs.Common.{◌≡◌, ℕ, zero, suc, ◌+◌, ◌*◌, ◌/◌, ◌%◌, ◌^◌, ◌<◌, ◌≤◌, ◌&&◌, eqb, ltb, ◌⊎◌, List, [], ◌∷◌, map, length, get_or, Decides, sym, refl, ap, ◌∙◌, inl, inr, pow-suc, arith}
use mathlib.Core.Path.{fun_ext}
use Rattle.std.proofs.lemmas.Nat.{div-mul-add, mod-mul-add}
use Rattle.std.proofs.lemmas.List.FromFn.{length-map-range_with_len, get_or-map-range_with_len}
use Rattle.std.proofs.lemmas.List.{get_or_past, ext_get_or}
use Rattle.std.proofs.lemmas.Bool.{cases_lt}
use Rattle.std.proofs.lemmas.Bool.Decides.{Decides-eqb, Decides-ltb, Decides-and, Decides-like}
use Rattle.std.proofs.ByRecursion.{Decides-by_and}
use Rattle.std.specs.List.{range_with_len, AllByRecursion}
use Rattle.digits.proofs.Digits.{bit_small, bit_zero, bit_mod, same_bits}
use Rattle.digits.specs.Bits.{bit, count}
use Rattle.masks.specs.Codes.{all_bytes}
use Rattle.oracle.specs.Setup.{Code}
use Rattle.triangulations.specs.Codes.{members, byte_of, code_of, Row, is_row}
use Rattle.triangulations.specs.Textbook.{PairSet}
use Rattle.triangulations.proofs.Drawing.{Small}

-- ---- the digits of a sum of weighted digits

weigh : (ℕ → ℕ) → ℕ → ℕ
weigh f k = count k (λ i. f i * 2 ^ i)

digit_times : (d w : ℕ) → d ≤ 1 → d * w ≤ w
digit_times zero w h = omega arith
digit_times (suc d) w h = let z : d ≡ 0 = omega arith in omega (arith, ap (λ (x : ℕ). suc x * w) z)

weigh_less : (f : ℕ → ℕ) → ((i : ℕ) → f i ≤ 1) → (k : ℕ) → weigh f k < 2 ^ k
unfolding weigh count
weigh_less f small zero = omega arith
weigh_less f small (suc k) = omega (arith, weigh_less f small k, digit_times (f k) (2 ^ k) (small k), pow-suc 2 k)

top_digit : (f : ℕ → ℕ) → ((i : ℕ) → f i ≤ 1) → (k : ℕ) → bit (f k * 2 ^ k + weigh f k) k ≡ f k
unfolding bit
top_digit f small k = ap (λ (x : ℕ). x % 2) (div-mul-add (f k) (2 ^ k) (weigh f k) (weigh_less f small k)) ∙ omega (arith, small k)

weigh_digit : (f : ℕ → ℕ) → ((i : ℕ) → f i ≤ 1) → (k i : ℕ) → i < k → bit (weigh f k) i ≡ f i
unfolding weigh count
weigh_digit f small zero i h = absurd (omega arith)
weigh_digit f small (suc k) i h = go (cases_lt i k) (weigh_digit f small k i)
  where
    go : (i < k) ⊎ (k ≤ i) → (i < k → bit (weigh f k) i ≡ f i) → bit (f k * 2 ^ k + weigh f k) i ≡ f i
    go (inl l) ih =
        sym (bit_mod k (f k * 2 ^ k + weigh f k) i l)
        ∙ ap (λ (x : ℕ). bit x i) (mod-mul-add (f k) (2 ^ k) (weigh f k) (weigh_less f small k))
        ∙ ih l
    go (inr l) ih =
        let e : i ≡ k = omega arith in
        ap (λ (x : ℕ). bit (f k * 2 ^ k + weigh f k) x) e ∙ top_digit f small k ∙ ap f (sym e)

-- ---- the code of a set

pub members_small : (v : Code) → Small (members v)
unfolding members
members_small v e = bit_small (get_or v (e / 8) 0) (e % 8)

pub members_past : (v : Code) → length v ≡ 35 → (e : ℕ) → 280 ≤ e → members v e ≡ 0
unfolding members
members_past v l e h = ap (λ (x : ℕ). bit x (e % 8)) (get_or_past v (e / 8) 0 (omega arith)) ∙ bit_zero (e % 8)

byte_less : (S : PairSet) → Small S → (k : ℕ) → byte_of S k < 256
unfolding byte_of weigh
byte_less S small k = weigh_less (λ i. S (8 * k + i)) (λ i. small (8 * k + i)) 8

-- the byte as it is made, from the lowest digit on
pub part_less : (S : PairSet) → Small S → (k i : ℕ) → count i (λ j. S (8 * k + j) * 2 ^ j) < 2 ^ i
unfolding weigh
part_less S small k i = weigh_less (λ j. S (8 * k + j)) (λ j. small (8 * k + j)) i

byte_digit : (S : PairSet) → Small S → (k i : ℕ) → i < 8 → bit (byte_of S k) i ≡ S (8 * k + i)
unfolding byte_of weigh
byte_digit S small k i h = weigh_digit (λ j. S (8 * k + j)) (λ j. small (8 * k + j)) 8 i h

pub length_code : (S : PairSet) → length (code_of S) ≡ 35
unfolding code_of
length_code S = length-map-range_with_len (byte_of S) 0 35

pub code_byte : (S : PairSet) (k : ℕ) → k < 35 → get_or (code_of S) k 0 ≡ byte_of S k
unfolding code_of
code_byte S k h = get_or-map-range_with_len (byte_of S) 0 35 k k 0 h (omega arith)

-- a set within the room of a code is the set of its code
pub members_code : (S : PairSet) → Small S → ((e : ℕ) → 280 ≤ e → S e ≡ 0) → members (code_of S) ≡ S
unfolding members
members_code S small none = fun_ext (λ e. at e (cases_lt e 280))
  where
    at : (e : ℕ) → (e < 280) ⊎ (280 ≤ e) → members (code_of S) e ≡ S e
    at e (inl h) =
        let same : 8 * (e / 8) + e % 8 ≡ e = omega arith in
        ap (λ (x : ℕ). bit x (e % 8)) (code_byte S (e / 8) (omega arith))
        ∙ byte_digit S small (e / 8) (e % 8) (omega arith) ∙ ap S same
    at e (inr h) = members_past (code_of S) (length_code S) e h ∙ sym (none e h)

-- a row of bytes is the code of its set
pub code_members : (v : Code) → Row v → code_of (members v) ≡ v
unfolding members
code_members v r =
    ext_get_or 0 (code_of (members v)) v (length_code (members v) ∙ sym r.size)
    (λ k h. let l : k < 35 = omega (arith, length_code (members v)) in code_byte (members v) k l ∙ byte k l)
  where
    byte : (k : ℕ) → k < 35 → byte_of (members v) k ≡ get_or v k 0
    byte k l =
        same_bits 8 (byte_of (members v) k) (get_or v k 0) (byte_less (members v) (members_small v) k) (at_all v k r.bytes (omega (arith, r.size)))
        (λ i h. byte_digit (members v) (members_small v) k i h ∙ place i h)
      where
        at_all : (w : Code) (j : ℕ) → AllByRecursion (λ b. b < 256) w → j < length w → get_or w j 0 < 2 ^ 8
        at_all [] j a h = absurd (omega arith)
        at_all (b ∷ bs) zero a h = a.0
        at_all (b ∷ bs) (suc j) a h = at_all bs j a.1 (omega arith)

        place : (i : ℕ) → i < 8 → members v (8 * k + i) ≡ bit (get_or v k 0) i
        place i h =
            let p : (8 * k + i) / 8 ≡ k = omega arith in
            let q : (8 * k + i) % 8 ≡ i = omega arith in
            ap (λ (x : ℕ). bit (get_or v x 0) ((8 * k + i) % 8)) p ∙ ap (λ (x : ℕ). bit (get_or v k 0) x) q

pub code_row : (S : PairSet) → Small S → Row (code_of S)
unfolding code_of
code_row S small = record { size = length_code S; bytes = all_map (range_with_len 0 35) }
  where
    all_map : (ks : List ℕ) → AllByRecursion (λ b. b < 256) (map (byte_of S) ks)
    all_map [] = tt
    all_map (k ∷ ks) = (byte_less S small k, all_map ks)

bytes_decides : (v : Code) → Decides (all_bytes v) (AllByRecursion (λ b. b < 256) v)
unfolding all_bytes
bytes_decides v = Decides-by_and (λ b. ltb b 256) (λ b. b < 256) all_bytes (λ b. Decides-ltb b 256) refl (λ _ _. refl) v

pub row_decides : (v : Code) → Decides (is_row v) (Row v)
unfolding is_row
row_decides v =
    Decides-like (eqb (length v) 35 && all_bytes v) (λ w. record { size = w.0; bytes = w.1 }) (λ r. (r.size, r.bytes))
    (Decides-and (eqb (length v) 35) (all_bytes v) (Decides-eqb (length v) 35) (bytes_decides v))
