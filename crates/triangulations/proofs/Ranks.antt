-- A step home lowers the rank by one, and the rank and the number of corners joined to corner 0 make n - 1.
use Rattle.std.proofs.Common.{◌≡◌, ℕ, zero, suc, ◌+◌, ◌-◌, ◌<◌, ◌≤◌, eqb, ◌≢◌, ◌⊎◌, Some, sym, refl, ap, ◌∙◌, subst, inl, inr, arith}
use Rattle.std.proofs.lemmas.Bool.{cases_lt, cases_eq, cond-true, cond-false, eq-eqb, ne_eqb}
use Rattle.digits.proofs.Digits.{count_change, count_first, count_all, count_zero}
use Rattle.digits.specs.Bits.{count}
use Rattle.pairs.specs.Pairs.{number, corners_of, pair_count}
use Rattle.triangulations.specs.Moves.{edge, replacement, exchanged, off_corner, rank_of, fan}
use Rattle.triangulations.specs.Textbook.{PairSet, Triangulation}
use Rattle.triangulations.proofs.Deciding.{diagonal_below}
use Rattle.triangulations.proofs.Drawing.{Small, member_edge, corners_pair, drawing}
use Rattle.triangulations.proofs.Drawings.{Drawn, digit_cases}
use Rattle.triangulations.proofs.Edges.{inner, edge_member, edge_none}
use Rattle.triangulations.proofs.Exchanges.{Changed}
use Rattle.triangulations.proofs.Fans.{fan_small, fan_spoke}
use Rattle.triangulations.proofs.Flips.{Flip, flip_to, flip_to_from}
use Rattle.triangulations.proofs.Gaps.{Gap, Full, full_or_gap, full_fan}
use Rattle.triangulations.proofs.Homes.{Homeward, gap_homeward}
use Rattle.triangulations.proofs.Neighbours.{neighbour, neighbour_by, changed, new_diagonal}
use Rattle.triangulations.proofs.Searches.{some_is}
use Rattle.triangulations.proofs.Swaps.{swap_out, Place, place, gone, come, kept}

-- how many corners are joined to corner 0
unfoldable pub degree : ℕ → PairSet → ℕ
degree n S = count n (edge n S 0)

pub off_zero : (S : PairSet) (e : ℕ) → (corners_of e).0 ≡ 0 → off_corner S e ≡ 0
unfolding off_corner
off_zero S e h = cond-true (eqb (corners_of e).0 0) 0 (S e) (eq-eqb (corners_of e).0 0 h)

pub off_away : (S : PairSet) (e : ℕ) → 0 < (corners_of e).0 → off_corner S e ≡ S e
unfolding off_corner
off_away S e h = cond-false (eqb (corners_of e).0 0) 0 (S e) (ne_eqb (corners_of e).0 0 (λ z. omega arith))

pub fan_rank : (n : ℕ) → rank_of n (fan n) ≡ 0
unfolding rank_of
fan_rank n = count_zero (pair_count n) (off_corner (fan n)) (λ e l. each e (cases_lt 0 (corners_of e).0) (digit_cases (fan n e) (fan_small n e)))
  where
    each : (e : ℕ) → (0 < (corners_of e).0) ⊎ ((corners_of e).0 ≤ 0) → (fan n e ≡ 0) ⊎ (fan n e ≡ 1) → off_corner (fan n) e ≡ 0
    each e (inr z) d = off_zero (fan n) e (omega arith)
    each e (inl z) (inl d) = off_away (fan n) e z ∙ d
    each e (inl z) (inr d) = absurd (omega (arith, (fan_spoke n e d).1))

module _ (n : ℕ) (S : PairSet) (large : 3 ≤ n) (few : n ≤ 24) (small : Small S) (t : Triangulation n S) where
  g : Drawn n (edge n S)
  g = drawing n S large few small t

  module _ (e : ℕ) (h : Homeward n S e) where
    -- the outer corner is 0
    home-flip : Flip n S e (corners_of e).0 (corners_of e).1
    home-flip =
        flip_to n S few g (corners_of e).0 (corners_of e).1 (member_edge n S t.only_diagonals e h.member)
        (inner n (corners_of e) (t.only_diagonals e h.member)) e 0 refl (h.away, h.first, h.second)

    from_zero : home-flip.from ≡ 0
    unfolding home-flip
    from_zero =
        flip_to_from n S few g (corners_of e).0 (corners_of e).1 (member_edge n S t.only_diagonals e h.member)
        (inner n (corners_of e) (t.only_diagonals e h.member)) e 0 refl (h.away, h.first, h.second)

    at_new : corners_of (number home-flip.from home-flip.to) ≡ (home-flip.from, home-flip.to)
    at_new = corners_pair n S few home-flip.from home-flip.to home-flip.exchange.ascending home-flip.exchange.within

    rank_down : rank_of n (exchanged S e (number home-flip.from home-flip.to)) + 1 ≡ rank_of n S
    unfolding rank_of
    rank_down = omega (arith, count_change (pair_count n) (off_corner T) (off_corner S) e below same, before, after)
      where
        k : ℕ
        k = number home-flip.from home-flip.to

        T : PairSet
        T = exchanged S e k

        below : e < pair_count n
        below = diagonal_below n e (t.only_diagonals e h.member)

        before : off_corner S e ≡ 1
        before = off_away S e h.away ∙ h.member

        after : off_corner T e ≡ 0
        after = off_away T e h.away ∙ swap_out S e k

        at_zero : (corners_of k).0 ≡ 0
        at_zero = ap (λ (x : ℕ × ℕ). x.0) at_new ∙ from_zero

        each : (j : ℕ) → j ≢ e → Place S e k j → (0 < (corners_of j).0) ⊎ ((corners_of j).0 ≤ 0) → off_corner T j ≡ off_corner S j
        each j ne p (inr z) = off_zero T j (omega arith) ∙ sym (off_zero S j (omega arith))
        each j ne (gone q v) (inl z) = absurd (ne q)
        each j ne (come q v) (inl z) = absurd (omega (arith, ap (λ (x : ℕ). (corners_of x).0) q, at_zero))
        each j ne (kept q r v) (inl z) = off_away T j z ∙ v ∙ sym (off_away S j z)

        same : (j : ℕ) → j < pair_count n → j ≢ e → off_corner T j ≡ off_corner S j
        same j l ne = each j ne (place S e k j) (cases_lt 0 (corners_of j).0)

    degree-up : degree n (exchanged S e (number home-flip.from home-flip.to)) ≡ degree n S + 1
    unfolding degree
    degree-up = omega (arith, count_change n (edge n T 0) (edge n S 0) home-flip.to home-flip.exchange.within same, before, after)
      where
        k : ℕ
        k = number home-flip.from home-flip.to

        T : PairSet
        T = exchanged S e k

        ch : Changed (edge n S) (edge n T) (corners_of e).0 (corners_of e).1 home-flip.from home-flip.to
        ch = changed n S large few small t e h.member home-flip

        after : edge n T 0 home-flip.to ≡ 1
        after = ap (λ (x : ℕ). edge n T x home-flip.to) (sym from_zero) ∙ ch.come

        before : edge n S 0 home-flip.to ≡ 0
        before =
            ap (λ (x : ℕ). edge n S x home-flip.to) (sym from_zero)
            ∙ edge_member n S home-flip.from home-flip.to (new_diagonal n S large few small t e h.member home-flip)
            ∙ (neighbour_by n S large few small t e h.member home-flip).fresh

        same : (j : ℕ) → j < n → j ≢ home-flip.to → edge n T 0 j ≡ edge n S 0 j
        same j l ne = ch.kept 0 j (λ i. omega (arith, h.away)) (λ i. ne i.1)

    -- the step home
    pub parent_rank : (k : ℕ) → replacement n S e ≡ Some k → (rank_of n (exchanged S e k) + 1 ≡ rank_of n S) × (degree n (exchanged S e k) ≡ degree n S + 1)
    parent_rank k r =
        subst (λ (x : ℕ). (rank_of n (exchanged S e x) + 1 ≡ rank_of n S) × (degree n (exchanged S e x) ≡ degree n S + 1))
        (some_is (replacement n S e) (number home-flip.from home-flip.to) k home-flip.is r) (rank_down, degree-up)

    pub parent_slot : (k : ℕ) × (replacement n S e ≡ Some k)
    parent_slot = (number home-flip.from home-flip.to, home-flip.is)

  -- with corner 0 joined to all
  full-degree : Full n (edge n S) → degree n S ≡ n - 1
  unfolding degree
  full-degree full = by n refl
    where
      by : (m : ℕ) → m ≡ n → degree n S ≡ n - 1
      by zero h = absurd (omega arith)
      by (suc m) h =
          omega (
            arith,
            ap (λ (x : ℕ). count x (edge n S 0)) h,
            count_first m (edge n S 0),
            count_all m (λ i. edge n S 0 (suc i)) (λ i l. full (suc i) (omega arith) (omega arith)),
            edge_none n S 0 0 (λ x y. omega arith),
          )

  full-rank : Full n (edge n S) → rank_of n S ≡ 0
  unfolding rank_of
  full-rank full = count_zero (pair_count n) (off_corner S) (λ e l. each e (cases_lt 0 (corners_of e).0) (digit_cases (S e) (small e)))
    where
      each : (e : ℕ) → (0 < (corners_of e).0) ⊎ ((corners_of e).0 ≤ 0) → (S e ≡ 0) ⊎ (S e ≡ 1) → off_corner S e ≡ 0
      each e (inr z) d = off_zero S e (omega arith)
      each e (inl z) (inl d) = off_away S e z ∙ d
      each e (inl z) (inr d) =
          absurd
          (full_fan n (edge n S) g full (corners_of e).0 (corners_of e).1 z (inner n (corners_of e) (t.only_diagonals e d)).wide
          (member_edge n S t.only_diagonals e d))

  -- the sum, if that of the parent is right
  rank-degree-turn : ((T : PairSet) → Small T → Triangulation n T → rank_of n T + 1 ≡ rank_of n S → rank_of n T + degree n T ≡ n - 1)
      → rank_of n S + degree n S ≡ n - 1
  rank-degree-turn rest = go (full_or_gap n (edge n S) g)
    where
      up : (e : ℕ) → Homeward n S e → rank_of n S + degree n S ≡ n - 1
      up e h =
          let (k, r) = parent_slot e h in
          let next = neighbour n S large few small t e h.member k r in
          let step = parent_rank e h k r in
          omega (arith, rest (exchanged S e k) next.small next.triangulation step.0, step.0, step.1)

      go : Full n (edge n S) ⊎ ((a : ℕ) × (b : ℕ) × Gap n (edge n S) a b) → rank_of n S + degree n S ≡ n - 1
      go (inl full) = omega (arith, full-degree full, full-rank full)
      go (inr (a, b, p)) = up (number a b) (gap_homeward n S large few small t a b p)

-- along the steps home
rank_degree_by : (k n : ℕ) (S : PairSet) → 3 ≤ n → n ≤ 24 → Small S → Triangulation n S → rank_of n S ≤ k → rank_of n S + degree n S ≡ n - 1
rank_degree_by zero n S large few small t l = rank-degree-turn n S large few small t (λ T s u e. absurd (omega arith))
rank_degree_by (suc k) n S large few small t l =
    rank-degree-turn n S large few small t (λ T s u e. rank_degree_by k n T large few s u (omega arith))

pub rank_degree : (n : ℕ) (S : PairSet) → 3 ≤ n → n ≤ 24 → Small S → Triangulation n S → rank_of n S + degree n S ≡ n - 1
rank_degree n S large few small t = rank_degree_by (rank_of n S) n S large few small t (omega arith)

count_one : (k : ℕ) (f : ℕ → ℕ) (i : ℕ) → i < k → f i ≡ 1 → 1 ≤ count k f
unfolding count
count_one zero f i l e = absurd (omega arith)
count_one (suc k) f i l e = go (cases_eq i k) (count_one k f i)
  where
    go : (i ≡ k) ⊎ (i ≡ k → ⊥) → (i < k → f i ≡ 1 → 1 ≤ count k f) → 1 ≤ f k + count k f
    go (inl s) ih = omega (arith, ap f s)
    go (inr s) ih = omega (arith, ih (omega arith) e)

-- corners 1 and n - 1 are joined to corner 0
degree_two : (n : ℕ) (S : PairSet) → Drawn n (edge n S) → 2 ≤ degree n S
unfolding degree count
degree_two n S g = by n refl
  where
    by : (m : ℕ) → m ≡ n → 2 ≤ count n (edge n S 0)
    by zero h = absurd (omega (arith, g.large))
    by (suc m) h =
        let e : n - 1 ≡ m = omega arith in
        omega (
          arith,
          ap (λ (x : ℕ). count x (edge n S 0)) h,
          count_one m (edge n S 0) 1 (omega (arith, g.large)) (g.short 0 (omega (arith, g.large))),
          ap (edge n S 0) e,
          g.long,
        )

pub rank_limit : (n : ℕ) (S : PairSet) → 3 ≤ n → n ≤ 24 → Small S → Triangulation n S → rank_of n S ≤ n - 3
rank_limit n S large few small t =
    omega (arith, rank_degree n S large few small t, degree_two n S (drawing n S large few small t))
