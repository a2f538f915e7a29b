-- The test of a row of bytes over adjacency rows is the test for triangulations.
use Rattle.std.proofs.Common.{◌≡◌, ℕ, suc, ◌+◌, ◌-◌, ◌*◌, ◌/◌, ◌%◌, ◌^◌, ◌<◌, ◌≤◌, min, Bool, true, false, eqb, ◌⊎◌, List, get_or, sym, refl, ap, ◌∙◌, subst, inl, inr, lt_of_le_of_lt, pow-suc, arith, pow_pos, pow-add}
use lib.Bits.{bit_and, and_le_l}
use lib.Pow.{high_ones, shl-shr}
use Rattle.std.proofs.lemmas.Bool.{cases_lt, eqb-true, eq-eqb}
use Rattle.std.proofs.lemmas.Bool.Decides.{same_from_decides}
use Rattle.digits.proofs.Digits.{bit_past, bit-and, bit_cases, same_bits}
use Rattle.digits.specs.Bits.{bit}
use Rattle.oracle.specs.Setup.{Code}
use Rattle.pairs.proofs.Numbers.{entry, corners_below, number_below, pair_count_limit}
use Rattle.pairs.specs.Pairs.{number, corners_of, pair_count}
use Rattle.triangulations.proofs.Drawing.{corners_pair}
use Rattle.triangulations.proofs.Edges.{Kind, kind, a_side, a_diagonal, no_pair, edge_side, edge_member, edge_none, edge_ends, diagonal_from, joined_up, joined_down}
use Rattle.triangulations.proofs.Searches.{every_each, every_from}
use Rattle.triangulations.proofs.Tests.{diagonal_decides}
use Rattle.triangulations.proofs.Deciding.{uncrossed_each, uncrossed_all, belongs_at, placed_at}
use Rattle.triangulations.specs.Codes.{members}
use Rattle.triangulations.specs.Moves.{edge, joined}
use Rattle.triangulations.specs.Objects.{uncrossed, belongs, placed, is_triangulation}
use Rattle.triangulations.specs.Polygon.{Diagonal, Cross, is_diagonal}
use Rattle.triangulations.specs.Search.{every}
use Rattle.triangulations.specs.Textbook.{PairSet}
use Rattle.polygon.proofs.Words.{bits_limit, bit_ones, bit_shr}
use Rattle.polygon.specs.Rows.{linked, Tied, span, stays_within, is_free, fits}

-- ---- the digits of a span

pub bit_shl_high : (s k i : ℕ) → bit (s * 2 ^ k) (k + i) ≡ bit s i
bit_shl_high s k i = sym (bit_shr (s * 2 ^ k) k i) ∙ ap (λ (x : ℕ). bit x i) (shl-shr s k)

pub bit_shl_low : (s k i : ℕ) → i < k → bit (s * 2 ^ k) i ≡ 0
unfolding bit
bit_shl_low s k i h =
    let e : k ≡ suc (k - suc i) + i = omega arith in
    ap (λ (x : ℕ). s * 2 ^ x / 2 ^ i % 2) e ∙ ap (λ (x : ℕ). s * x / 2 ^ i % 2) (pow-add 2 (suc (k - suc i)) i)
    ∙ ap (λ (x : ℕ). x / 2 ^ i % 2) (regroup s (2 ^ suc (k - suc i)) (2 ^ i)) ∙ ap (λ (x : ℕ). x % 2) (shl-shr (s * 2 ^ suc (k - suc i)) i)
    ∙ even s (k - suc i)
  where
    regroup : (x y z : ℕ) → x * (y * z) ≡ x * y * z
    regroup x y z = omega arith

    even : (x j : ℕ) → x * 2 ^ suc j % 2 ≡ 0
    even x j = let q = ap (λ (w : ℕ). x * w) (pow-suc 2 j) in omega arith

module _ (a b : ℕ) (h : a < b) where
  span-is : span a b ≡ (2 ^ (b + 1 - a) - 1) * 2 ^ a
  span-is =
      let e : b + 1 ≡ (b + 1 - a) + a = omega arith in
      ap (λ (x : ℕ). 2 ^ x - 2 ^ a) e ∙ high_ones (b + 1 - a) a

  span-in : (d : ℕ) → a ≤ d → d ≤ b → bit (span a b) d ≡ 1
  span-in d l m =
      let e : d ≡ a + (d - a) = omega arith in
      ap (λ (x : ℕ). bit x d) span-is ∙ ap (bit ((2 ^ (b + 1 - a) - 1) * 2 ^ a)) e
      ∙ bit_shl_high (2 ^ (b + 1 - a) - 1) a (d - a) ∙ bit_ones (b + 1 - a) (d - a) (omega arith)

  span-low : (d : ℕ) → d < a → bit (span a b) d ≡ 0
  span-low d l = ap (λ (x : ℕ). bit x d) span-is ∙ bit_shl_low (2 ^ (b + 1 - a) - 1) a d l

  span-high : (d : ℕ) → b < d → bit (span a b) d ≡ 0
  span-high d l =
      let e : d ≡ a + (d - a) = omega arith in
      ap (λ (x : ℕ). bit x d) span-is ∙ ap (bit ((2 ^ (b + 1 - a) - 1) * 2 ^ a)) e
      ∙ bit_shl_high (2 ^ (b + 1 - a) - 1) a (d - a)
      ∙ bit_past (b + 1 - a) (2 ^ (b + 1 - a) - 1) (d - a) (omega (arith, pow_pos (b + 1 - a))) (omega arith)

-- ---- edges that leave a span

module _ (n : ℕ) (S : PairSet) (rows : List ℕ) (few : n ≤ 24) (tie : Tied n S rows) where
  pub row_limit : (a : ℕ) → get_or rows a 0 < 2 ^ n
  unfolding joined
  row_limit a =
      bits_limit n (get_or rows a 0)
      (λ i h. tie a i ∙ omega (arith, edge_none n S a i (λ x y. omega arith), edge_none n S i a (λ x y. omega arith)))

  module _ (e : ℕ) (d : Diagonal n (corners_of e)) where
    within-from : (c : ℕ) → ((x : ℕ) → linked rows c x ≡ 1 → ((corners_of e).0 ≤ x) × (x ≤ (corners_of e).1))
        → stays_within rows (corners_of e).0 (corners_of e).1 c ≡ true
    unfolding stays_within
    within-from c h = eq-eqb (bit_and r s) r (same_bits n (bit_and r s) r (lt_of_le_of_lt (and_le_l r s) (row_limit c)) (row_limit c) (λ x l. each x (bit_cases r x)))
      where
        r : ℕ
        r = get_or rows c 0

        s : ℕ
        s = span (corners_of e).0 (corners_of e).1

        each : (x : ℕ) → (bit r x ≡ 0) ⊎ (bit r x ≡ 1) → bit (bit_and r s) x ≡ bit r x
        each x (inl z) = omega (arith, bit-and r s x)
        each x (inr o) =
            omega (arith, bit-and r s x, span-in (corners_of e).0 (corners_of e).1 d.0 x (h x o).0 (h x o).1)

    within-to : (c : ℕ) → stays_within rows (corners_of e).0 (corners_of e).1 c ≡ true
        → (x : ℕ) → linked rows c x ≡ 1 → ((corners_of e).0 ≤ x) × (x ≤ (corners_of e).1)
    unfolding stays_within
    within-to c t x o = (low (cases_lt x (corners_of e).0), high (cases_lt (corners_of e).1 x))
      where
        r : ℕ
        r = get_or rows c 0

        s : ℕ
        s = span (corners_of e).0 (corners_of e).1

        same : min (bit r x) (bit s x) ≡ bit r x
        same = sym (bit-and r s x) ∙ ap (λ (y : ℕ). bit y x) (eqb-true (bit_and r s) r t)

        low : (x < (corners_of e).0) ⊎ ((corners_of e).0 ≤ x) → (corners_of e).0 ≤ x
        low (inl l) = absurd (omega (arith, same, span-low (corners_of e).0 (corners_of e).1 d.0 x l))
        low (inr l) = l

        high : ((corners_of e).1 < x) ⊎ (x ≤ (corners_of e).1) → x ≤ (corners_of e).1
        high (inl l) = absurd (omega (arith, same, span-high (corners_of e).0 (corners_of e).1 d.0 x l))
        high (inr l) = l

    -- ---- no member crosses, and no edge leaves

    -- an edge of two corners on different sides of the pair is a member that crosses it
    crossing : (c x : ℕ) → (corners_of e).0 < c → c < (corners_of e).1 → linked rows c x ≡ 1 → (x < (corners_of e).0) ⊎ ((corners_of e).1 < x)
        → (f : ℕ) × (f < pair_count n) × (S f ≡ 1) × Cross (corners_of e) (corners_of f)
    crossing c x h l o (inl m) =
        let edge-is = sym (joined_down n S c x (omega arith)) ∙ sym (tie c x) ∙ o in
        let k = diagonal_from n x c (record { wide = omega arith; within = (edge_ends n S x c edge-is).1; cut = inr (omega (arith, d.1)) }) in (
          number x c,
          number_below x c n k.0 k.1,
          sym (edge_member n S x c k) ∙ edge-is,
          subst (λ (p : ℕ × ℕ). Cross (corners_of e) p) (sym (corners_pair n S few x c k.0 k.1)) (inr (m, h, l)),
        )
    crossing c x h l o (inr m) =
        let edge-is = sym (joined_up n S c x (omega arith)) ∙ sym (tie c x) ∙ o in
        let k = diagonal_from n c x (record { wide = omega arith; within = (edge_ends n S c x edge-is).1; cut = inl (omega arith) }) in (
          number c x,
          number_below c x n k.0 k.1,
          sym (edge_member n S c x k) ∙ edge-is,
          subst (λ (p : ℕ × ℕ). Cross (corners_of e) p) (sym (corners_pair n S few c x k.0 k.1)) (inl (h, l, m)),
        )

    uncrossed-free : uncrossed n S e ≡ true → is_free rows (corners_of e).0 (corners_of e).1 ≡ true
    unfolding is_free
    uncrossed-free u =
        every_from ((corners_of e).1 - ((corners_of e).0 + 1)) (λ i. stays_within rows (corners_of e).0 (corners_of e).1 ((corners_of e).0 + 1 + i))
        (λ i l. within-from ((corners_of e).0 + 1 + i) (λ x o. (low i l x o (cases_lt x (corners_of e).0), high i l x o (cases_lt (corners_of e).1 x))))
      where
        clash : (i : ℕ) → i < (corners_of e).1 - ((corners_of e).0 + 1) → (x : ℕ) → linked rows ((corners_of e).0 + 1 + i) x ≡ 1
            → (x < (corners_of e).0) ⊎ ((corners_of e).1 < x) → ⊥
        clash i l x o s =
            let (f, m, q, y) = crossing ((corners_of e).0 + 1 + i) x (omega arith) (omega arith) o s in
            uncrossed_each n S e u f m q y

        low : (i : ℕ) → i < (corners_of e).1 - ((corners_of e).0 + 1) → (x : ℕ) → linked rows ((corners_of e).0 + 1 + i) x ≡ 1
            → (x < (corners_of e).0) ⊎ ((corners_of e).0 ≤ x) → (corners_of e).0 ≤ x
        low i l x o (inl s) = absurd (clash i l x o (inl s))
        low i l x o (inr s) = s

        high : (i : ℕ) → i < (corners_of e).1 - ((corners_of e).0 + 1) → (x : ℕ) → linked rows ((corners_of e).0 + 1 + i) x ≡ 1
            → ((corners_of e).1 < x) ⊎ (x ≤ (corners_of e).1) → x ≤ (corners_of e).1
        high i l x o (inl s) = absurd (clash i l x o (inr s))
        high i l x o (inr s) = s

    free-uncrossed : is_free rows (corners_of e).0 (corners_of e).1 ≡ true → uncrossed n S e ≡ true
    unfolding is_free
    free-uncrossed t = uncrossed_all n S e (λ f l m x. hit f l m x)
      where
        stays : (c : ℕ) → (corners_of e).0 < c → c < (corners_of e).1 → (x : ℕ) → linked rows c x ≡ 1 → ((corners_of e).0 ≤ x) × (x ≤ (corners_of e).1)
        stays c h l =
            let q : (corners_of e).0 + 1 + (c - ((corners_of e).0 + 1)) ≡ c = omega arith in
            within-to c
            (subst (λ (y : ℕ). stays_within rows (corners_of e).0 (corners_of e).1 y ≡ true) q
            (every_each ((corners_of e).1 - ((corners_of e).0 + 1))
            (λ i. stays_within rows (corners_of e).0 (corners_of e).1 ((corners_of e).0 + 1 + i)) t (c - ((corners_of e).0 + 1)) (omega arith)))

        -- a member is an edge
        edge_of : (f : ℕ) → f < pair_count n → S f ≡ 1 → edge n S (corners_of f).0 (corners_of f).1 ≡ 1
        edge_of f l m = go (kind n (corners_of f).0 (corners_of f).1)
          where
            in_table : f < 276
            in_table = omega (arith, pair_count_limit n few)

            go : Kind n (corners_of f).0 (corners_of f).1 → edge n S (corners_of f).0 (corners_of f).1 ≡ 1
            go (a_side h k s) = edge_side n S (corners_of f).0 (corners_of f).1 h k s
            go (a_diagonal k) = edge_member n S (corners_of f).0 (corners_of f).1 k ∙ ap S (entry f in_table).numbered ∙ m
            go (no_pair k) = absurd (k (entry f in_table).ascending (corners_below n f few l))

        hit : (f : ℕ) → f < pair_count n → S f ≡ 1 → Cross (corners_of e) (corners_of f) → ⊥
        hit f l m (inl w) =
            let link = tie (corners_of f).0 (corners_of f).1 ∙ joined_up n S (corners_of f).0 (corners_of f).1 (omega arith) ∙ edge_of f l m in
            omega (arith, (stays (corners_of f).0 w.0 w.1 (corners_of f).1 link).1)
        hit f l m (inr w) =
            let link = tie (corners_of f).1 (corners_of f).0 ∙ joined_down n S (corners_of f).1 (corners_of f).0 (omega arith) ∙ edge_of f l m in
            omega (arith, (stays (corners_of f).1 w.1 w.2 (corners_of f).0 link).0)

    pub free_is_uncrossed : is_free rows (corners_of e).0 (corners_of e).1 ≡ uncrossed n S e
    free_is_uncrossed = same_from_decides (is_free rows (corners_of e).0 (corners_of e).1) (uncrossed n S e) (free-uncrossed, uncrossed-free) (λ u. u, λ u. u)

-- ---- the test at each pair

pub fits_placed : (n : ℕ) (v : Code) (rows : List ℕ) → n ≤ 24 → Tied n (members v) rows → (e : ℕ) → fits n v rows e ≡ placed n (members v) e
unfolding fits
fits_placed n v rows few tie e = go (is_diagonal n (corners_of e)) refl
  where
    S : PairSet
    S = members v

    judge : Bool → ℕ → Bool
    judge b x = elim b [ true ↦ eqb x 1 | false ↦ eqb x 0 ]

    turn : (t : Bool) → is_diagonal n (corners_of e) ≡ t
        → fits n v rows e ≡ (elim t [ true ↦ judge (is_free rows (corners_of e).0 (corners_of e).1) (S e) | false ↦ eqb (S e) 0 ])
    turn t h = ap (λ (x : Bool). elim x [ true ↦ judge (is_free rows (corners_of e).0 (corners_of e).1) (S e) | false ↦ eqb (S e) 0 ]) h

    go : (t : Bool) → is_diagonal n (corners_of e) ≡ t → fits n v rows e ≡ placed n S e
    go true h =
        turn true h
        ∙ ap (λ (x : Bool). judge x (S e)) (free_is_uncrossed n S rows few tie e ((diagonal_decides n (corners_of e)).0 h) ∙ sym (belongs_at n S e true h))
        ∙ sym (placed_at n S e (belongs n S e) refl)
    go false h = turn false h ∙ sym (placed_at n S e false (belongs_at n S e false h))

pub every_same : (k : ℕ) (f g : ℕ → Bool) → ((i : ℕ) → i < k → f i ≡ g i) → every k f ≡ every k g
every_same k f g h =
    same_from_decides {P = (i : ℕ) → i < k → f i ≡ true} (every k f) (every k g) (every_each k f, every_from k f)
    (λ t i l. h i l ∙ every_each k g t i l, λ t. every_from k g (λ i l. sym (h i l) ∙ t i l))

pub fits_all : (n : ℕ) (v : Code) (rows : List ℕ) → n ≤ 24 → Tied n (members v) rows → every 280 (fits n v rows) ≡ is_triangulation n (members v)
unfolding is_triangulation
fits_all n v rows few tie = every_same 280 (fits n v rows) (placed n (members v)) (λ e l. fits_placed n v rows few tie e)
