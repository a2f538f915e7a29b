-- The rule of the table of pairs, and the order of their numbers. Assumes nothing.
use Rattle.std.proofs.Common.{◌≡◌, ℕ, zero, suc, ◌+◌, ◌-◌, ◌*◌, ◌/◌, ◌<◌, ◌≤◌, Bool, true, ◌&&◌, eqb, ltb, ◌⊎◌, length, sym, refl, ap, ◌∙◌, inl, inr, add-one, arith}
use Rattle.std.proofs.lemmas.List.{get_or_past}
use Rattle.std.proofs.lemmas.Bool.{ltb-true, eqb-true, and_parts, cases_order, cases_lt}
use Rattle.pairs.specs.Pairs.{pair_count, number, pairs_below, corners_of, Entry}

-- ---- the table

-- one computed test of an entry
good : ℕ → Bool
good e = ltb (corners_of e).0 (corners_of e).1 && (ltb (corners_of e).1 24 && eqb (number (corners_of e).0 (corners_of e).1) e)

all_good : ℕ → Bool
all_good zero = true
all_good (suc e) = good e && all_good e

-- the test of the whole table
table_good : all_good 276 ≡ true
unfolding all_good good corners_of pairs_below number pair_count
table_good = refl

-- what one entry's turn in the test says
split_good : (k e : ℕ) → all_good (suc k) ≡ true → e < suc k → ((all_good k ≡ true) → e < k → good e ≡ true) → good e ≡ true
unfolding all_good
split_good k e t l rest = go (cases_order e k)
  where
    go : (e ≡ k) ⊎ ((e < k) ⊎ (k < e)) → good e ≡ true
    go (inl q) = ap good q ∙ (and_parts (good k) (all_good k) t).0
    go (inr (inl m)) = rest (and_parts (good k) (all_good k) t).1 m
    go (inr (inr m)) = absurd (omega arith)

each_good : (k e : ℕ) → all_good k ≡ true → e < k → good e ≡ true
each_good zero e t l = absurd (omega arith)
each_good (suc k) e t l = split_good k e t l (each_good k e)

pub entry : (e : ℕ) → e < 276 → Entry e (corners_of e)
unfolding good
entry e h =
    let t = and_parts (ltb (corners_of e).0 (corners_of e).1) _ (each_good 276 e table_good h) in
    let u = and_parts (ltb (corners_of e).1 24) _ t.1 in
    record { ascending = ltb-true _ _ t.0; within = ltb-true _ _ u.0; numbered = eqb-true _ _ u.1 }

pub length_table : length (pairs_below 24) ≡ 276
unfolding pairs_below
length_table = refl

pub corners_past : (e : ℕ) → 276 ≤ e → corners_of e ≡ (0, 0)
unfolding corners_of
corners_past e h = get_or_past (pairs_below 24) e (0, 0) (omega (arith, length_table))

-- ---- the order of the numbers

pub pair_count_more : (b : ℕ) → pair_count (b + 1) ≡ pair_count b + b
unfolding pair_count
pair_count_more zero = refl
pair_count_more (suc k) =
    let e : suc k + 1 - 1 ≡ suc k = omega arith in
    let f : suc k - 1 ≡ k = omega arith in
    let g : (suc k + 1) * suc k / 2 ≡ suc k * k / 2 + suc k = omega arith in
    ap (λ (x : ℕ). (suc k + 1) * x / 2) e ∙ g ∙ ap (λ (x : ℕ). suc k * x / 2 + suc k) (sym f)

pub pair_count_mono : (b c : ℕ) → b ≤ c → pair_count b ≤ pair_count c
pair_count_mono b zero h = let e : b ≡ 0 = omega arith in omega (arith, ap pair_count e)
pair_count_mono b (suc c) h = go (cases_order b (suc c)) (pair_count_mono b c)
  where
    go : (b ≡ suc c) ⊎ ((b < suc c) ⊎ (suc c < b)) → (b ≤ c → pair_count b ≤ pair_count c) → pair_count b ≤ pair_count (suc c)
    go (inl q) ih = omega (arith, ap pair_count q)
    go (inr (inl m)) ih = omega (arith, ih (omega arith), pair_count_more c, ap pair_count (add-one c))
    go (inr (inr m)) ih = absurd (omega arith)

-- the pairs of a later second corner have the larger numbers
pub number_below : (a b c : ℕ) → a < b → b < c → number a b < pair_count c
unfolding number
number_below a b c h l = omega (arith, pair_count_more b, pair_count_mono (b + 1) c (omega arith))

pub number_later : (a b x c : ℕ) → a < b → b < c → number a b < number x c
unfolding number
number_later a b x c h l = omega (arith, number_below a b c h l)

pub pair_count_limit : (n : ℕ) → n ≤ 24 → pair_count n ≤ 276
unfolding pair_count
pair_count_limit n h = pair_count_mono n 24 h

-- a number below the pairs of n corners is that of a pair of them
pub corners_below : (n e : ℕ) → n ≤ 24 → e < pair_count n → (corners_of e).1 < n
unfolding number
corners_below n e h l = go (cases_lt (corners_of e).1 n)
  where
    go : ((corners_of e).1 < n) ⊎ (n ≤ (corners_of e).1) → (corners_of e).1 < n
    go (inl m) = m
    go (inr m) = absurd (omega (arith, (entry e (omega (arith, pair_count_limit n h))).numbered, pair_count_mono n (corners_of e).1 m))

-- no two pairs have one number
pub number_once : (a b c d : ℕ) → a < b → c < d → number a b ≡ number c d → (a ≡ c) × (b ≡ d)
unfolding number
number_once a b c d h l e = go (cases_order b d)
  where
    go : (b ≡ d) ⊎ ((b < d) ⊎ (d < b)) → (a ≡ c) × (b ≡ d)
    go (inl q) = (omega (arith, ap pair_count q), q)
    go (inr (inl m)) = absurd (omega (arith, number_later a b c d h m))
    go (inr (inr m)) = absurd (omega (arith, number_later c d a b l m))

-- reading the table at a pair's number gives the pair
pub corners_number : (a b : ℕ) → a < b → b < 24 → corners_of (number a b) ≡ (a, b)
unfolding pair_count
corners_number a b h l =
    let t = entry (number a b) (number_below a b 24 h l) in
    let s = number_once _ _ a b t.ascending h t.numbered in
    λ i. (s.0 i, s.1 i)
