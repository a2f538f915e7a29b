-- The rank in the words of the textbook: the numbers that a sum of digits counts, in ascending order.
use Rattle.std.proofs.Common.{◌≡◌, ℕ, zero, suc, ◌+◌, ◌<◌, ◌≤◌, cond, eqb, ◌⊎◌, sym, refl, ap, ◌∙◌, subst, inl, inr, arith}
use Rattle.std.proofs.lemmas.Bool.{cases_lt, cases_order, cond-true, cond-false, eq-eqb, ne_eqb}
use Rattle.digits.specs.Bits.{count}
use Rattle.pairs.specs.Pairs.{pair_count, corners_of}
use Rattle.triangulations.specs.Moves.{off_corner, rank_of}
use Rattle.triangulations.specs.Statements.{HowMany}
use Rattle.triangulations.specs.Textbook.{PairSet, Triangulation, OffCorner}
use Rattle.triangulations.proofs.Deciding.{diagonal_below}
use Rattle.triangulations.proofs.Drawing.{Small}
use Rattle.triangulations.proofs.Drawings.{digit_cases}
use Rattle.triangulations.proofs.Ranks.{off_zero, off_away}
use Rattle.triangulations.proofs.Words.{pair_at, corners_at}

-- the numbers below m whose digit is 1
abbrev Ones : (ℕ → ℕ) → ℕ → ℕ → Type 0
Ones f m e = (e < m) × (f e ≡ 1)

-- a sequence with one number more at place k
longer : (ℕ → ℕ) → ℕ → ℕ → ℕ → ℕ
longer nth k last i = cond (eqb i k) last (nth i)

module _ (nth : ℕ → ℕ) (k last : ℕ) where
  longer-here : longer nth k last k ≡ last
  unfolding longer
  longer-here = cond-true (eqb k k) last (nth k) (eq-eqb k k refl)

  longer-else : (i : ℕ) → i < k → longer nth k last i ≡ nth i
  unfolding longer
  longer-else i l = cond-false (eqb i k) last (nth i) (ne_eqb i k (λ q. omega arith))

module _ (f : ℕ → ℕ) (small : (e : ℕ) → f e ≤ 1) where
  skipped : (m : ℕ) → f m ≡ 0 → HowMany (Ones f m) (count m f) → HowMany (Ones f (suc m)) (count (suc m) f)
  unfolding count
  skipped m z h =
      let same : count m f ≡ f m + count m f = omega arith in
      subst (HowMany (Ones f (suc m))) same
      (record {
        nth = h.nth;
        each = λ i l. let w = h.each i l in (omega (arith, w.0), w.1);
        ascending = h.ascending;
        all = λ e w. h.all e (under e w.0 w.1, w.1);
      })
    where
      under : (e : ℕ) → e < suc m → f e ≡ 1 → e < m
      under e l o = go (cases_order e m)
        where
          go : (e ≡ m) ⊎ ((e < m) ⊎ (m < e)) → e < m
          go (inl q) = absurd (omega (arith, ap f q))
          go (inr (inl q)) = q
          go (inr (inr q)) = absurd (omega arith)

  counted_in : (m : ℕ) → f m ≡ 1 → HowMany (Ones f m) (count m f) → HowMany (Ones f (suc m)) (count (suc m) f)
  unfolding count
  counted_in m o h =
      let same : suc (count m f) ≡ f m + count m f = omega arith in
      subst (HowMany (Ones f (suc m))) same
      (record {
        nth = longer h.nth k m;
        each = λ i l. each i (cases_lt i k) l;
        ascending = λ i j l n. ascending i j l (cases_lt j k) n;
        all = λ e w. all e (cases_order e m) w.0 w.1;
      })
    where
      k : ℕ
      k = count m f

      last : (i : ℕ) → k ≤ i → i < suc k → longer h.nth k m i ≡ m
      last i l n = let q : i ≡ k = omega arith in ap (longer h.nth k m) q ∙ longer-here h.nth k m

      each : (i : ℕ) → (i < k) ⊎ (k ≤ i) → i < suc k → Ones f (suc m) (longer h.nth k m i)
      each i (inl l) n = let w = h.each i l in subst (Ones f (suc m)) (sym (longer-else h.nth k m i l)) (omega (arith, w.0), w.1)
      each i (inr l) n = subst (Ones f (suc m)) (sym (last i l n)) (omega arith, o)

      ascending : (i j : ℕ) → i < j → (j < k) ⊎ (k ≤ j) → j < suc k → longer h.nth k m i < longer h.nth k m j
      ascending i j l (inl q) n = omega (arith, longer-else h.nth k m i (omega arith), longer-else h.nth k m j q, h.ascending i j l q)
      ascending i j l (inr q) n =
          omega (arith, longer-else h.nth k m i (omega arith), last j q n, (h.each i (omega arith)).0)

      all : (e : ℕ) → (e ≡ m) ⊎ ((e < m) ⊎ (m < e)) → e < suc m → f e ≡ 1 → (i : ℕ) × (i < suc k) × (longer h.nth k m i ≡ e)
      all e (inl q) l w = (k, omega arith, longer-here h.nth k m ∙ sym q)
      all e (inr (inl q)) l w =
          let x = h.all e (q, w) in
          (x.0, omega (arith, x.1), longer-else h.nth k m x.0 x.1 ∙ x.2)
      all e (inr (inr q)) l w = absurd (omega arith)

  counted : (m : ℕ) → HowMany (Ones f m) (count m f)
  unfolding count
  counted zero =
      record {
        nth = λ i. 0;
        each = λ i l. absurd (omega arith);
        ascending = λ i j l n. absurd (omega arith);
        all = λ e w. absurd (omega (arith, w.0));
      }
  counted (suc m) = go (digit_cases (f m) (small m)) (counted m)
    where
      go : (f m ≡ 0) ⊎ (f m ≡ 1) → HowMany (Ones f m) (count m f) → HowMany (Ones f (suc m)) (count (suc m) f)
      go (inl z) h = skipped m z h
      go (inr o) h = counted_in m o h

module _ (n : ℕ) (S : PairSet) (few : n ≤ 24) (small : Small S) (t : Triangulation n S) where
  off-small : (e : ℕ) → off_corner S e ≤ 1
  off-small e = go (cases_lt 0 (corners_of e).0)
    where
      go : (0 < (corners_of e).0) ⊎ ((corners_of e).0 ≤ 0) → off_corner S e ≤ 1
      go (inl h) = omega (arith, off_away S e h, small e)
      go (inr h) = omega (arith, off_zero S e (omega arith))

  off-to : (e : ℕ) → off_corner S e ≡ 1 → OffCorner n S e
  off-to e o = go (cases_lt 0 (corners_of e).0)
    where
      go : (0 < (corners_of e).0) ⊎ ((corners_of e).0 ≤ 0) → OffCorner n S e
      go (inl h) =
          let m = sym (off_away S e h) ∙ o in
          record { a = (corners_of e).0; b = (corners_of e).1; pair = pair_at n e (t.only_diagonals e m); member = m; away = h }
      go (inr h) = absurd (omega (arith, off_zero S e (omega arith)))

  off-from : (e : ℕ) → OffCorner n S e → Ones (off_corner S) (pair_count n) e
  off-from e w =
      let away = subst (λ (p : ℕ × ℕ). 0 < p.0) (sym (corners_at n S e w.a w.b few w.pair)) w.away in
      (diagonal_below n e (t.only_diagonals e w.member), off_away S e away ∙ w.member)

  pub rank_counts : HowMany (OffCorner n S) (rank_of n S)
  unfolding rank_of
  rank_counts =
      let h = counted (off_corner S) off-small (pair_count n) in
      record {
        nth = h.nth;
        each = λ i l. off-to (h.nth i) (h.each i l).1;
        ascending = h.ascending;
        all = λ e w. h.all e (off-from e w);
      }
