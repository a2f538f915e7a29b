-- The corners joined to corner 0 in a drawing: two of them with none between are joined to each other.
use Rattle.std.proofs.Common.{◌≡◌, ℕ, zero, suc, ◌+◌, ◌-◌, ◌<◌, ◌≤◌, ◌⊎◌, sym, ap, ◌∙◌, inl, inr, arith}
use Rattle.std.proofs.lemmas.Bool.{cases_order, cases_lt}
use Rattle.triangulations.proofs.Corners.{Below, below}
use Rattle.triangulations.proofs.Drawings.{Drawn, digit_cases, Last, last_one, Next, next_one}

-- corners a < b joined to corner 0, and none between them
pub record Gap (n : ℕ) (E : ℕ → ℕ → ℕ) (a b : ℕ) : Type 0 where
  pub positive : 0 < a
  pub wide : a + 1 < b
  pub within : b < n
  pub first : E 0 a ≡ 1
  pub second : E 0 b ≡ 1
  pub none : (d : ℕ) → a < d → d < b → E 0 d ≡ 0

-- every corner but 0 is joined to 0
abbrev pub Full : ℕ → (ℕ → ℕ → ℕ) → Type 0
Full n E = (c : ℕ) → 0 < c → c < n → E 0 c ≡ 1

module _ (n : ℕ) (E : ℕ → ℕ → ℕ) (g : Drawn n E) where
  -- the corner below (0, b) is a
  pub gap_closed : (a b : ℕ) → Gap n E a b → E a b ≡ 1
  gap_closed a b p = go (below n E g 0 b p.second (omega (arith, p.wide)))
    where
      go : Below E 0 b → E a b ≡ 1
      go t = at (cases_order t.corner a)
        where
          at : (t.corner ≡ a) ⊎ ((t.corner < a) ⊎ (a < t.corner)) → E a b ≡ 1
          at (inl s) = ap (λ (x : ℕ). E x b) (sym s) ∙ t.to
          at (inr (inl s)) =
              absurd (g.plane 0 a t.corner b p.first t.to t.left s (omega (arith, p.wide)))
          at (inr (inr s)) = absurd (omega (arith, p.none t.corner s t.right, t.from))

  not_first : (i : ℕ) → 0 < i → E 0 i ≡ 0 → 1 < i
  not_first i h z = go (cases_order i 1)
    where
      go : (i ≡ 1) ⊎ ((i < 1) ⊎ (1 < i)) → 1 < i
      go (inl s) = absurd (omega (arith, ap (E 0) s, g.short 0 (omega (arith, g.large))))
      go (inr (inl s)) = absurd (omega arith)
      go (inr (inr s)) = s

  not_last : (i : ℕ) → i < n → E 0 i ≡ 0 → i < n - 1
  not_last i h z = go (cases_order i (n - 1))
    where
      go : (i ≡ n - 1) ⊎ ((i < n - 1) ⊎ (n - 1 < i)) → i < n - 1
      go (inl s) = absurd (omega (arith, ap (E 0) s, g.long))
      go (inr (inl s)) = s
      go (inr (inr s)) = absurd (omega arith)

  -- the next corner after i that is joined to 0
  pub next_joined : (i : ℕ) → i < n → E 0 i ≡ 0 → Next (E 0) i (n - 1)
  next_joined i h z = next_one (E 0) (g.digit 0) i (n - 1) (not_last i h z) g.long

  -- a corner that is not joined to 0 lies in a gap
  pub gap_around : (i : ℕ) → 0 < i → i < n → E 0 i ≡ 0 → (a : ℕ) × (b : ℕ) × Gap n E a b
  gap_around i h l z = (
    p.place,
    q.place,
    record {
      positive = (g.ends 0 p.place p.is).0;
      wide = omega (arith, p.before, q.after);
      within = omega (arith, q.upto);
      first = p.is;
      second = q.is;
      none = λ d x y. between d x y (cases_order d i);
    },
  )
    where
      p : Last (E 0) i
      p = last_one (E 0) (g.digit 0) i 1 (not_first i h z) (g.short 0 (omega (arith, g.large)))

      q : Next (E 0) i (n - 1)
      q = next_joined i l z

      between : (d : ℕ) → p.place < d → d < q.place → (d ≡ i) ⊎ ((d < i) ⊎ (i < d)) → E 0 d ≡ 0
      between d x y (inl s) = ap (E 0) s ∙ z
      between d x y (inr (inl s)) = p.none_after d x s
      between d x y (inr (inr s)) = q.none_before d s y

  -- the first corner but 0 that is not joined to 0: the one before it begins a gap
  pub gap_after : (i : ℕ) → 0 < i → i < n → E 0 i ≡ 0 → ((c : ℕ) → 0 < c → c < i → E 0 c ≡ 1)
      → (b : ℕ) → i < b → b < n → E 0 b ≡ 1 → ((d : ℕ) → i < d → d < b → E 0 d ≡ 0) → Gap n E (i - 1) b
  gap_after i h l z before b k m o none =
      let w = not_first i h z in
      record {
        positive = omega arith;
        wide = omega arith;
        within = m;
        first = before (i - 1) (omega arith) (omega arith);
        second = o;
        none = λ d x y. between d x y (cases_order d i);
      }
    where
      between : (d : ℕ) → i - 1 < d → d < b → (d ≡ i) ⊎ ((d < i) ⊎ (i < d)) → E 0 d ≡ 0
      between d x y (inl s) = ap (E 0) s ∙ z
      between d x y (inr (inl s)) = absurd (omega arith)
      between d x y (inr (inr s)) = none d s y

  -- corner 0 is joined to all, or there is a gap
  full_by : (k : ℕ) → k ≤ n → ((c : ℕ) → 0 < c → c < k → E 0 c ≡ 1) ⊎ ((a : ℕ) × (b : ℕ) × Gap n E a b)
  full_by zero h = inl (λ c p q. absurd (omega arith))
  full_by (suc k) h = go (full_by k (omega arith)) (digit_cases (E 0 k) (g.digit 0 k)) (cases_lt 0 k)
    where
      go : ((c : ℕ) → 0 < c → c < k → E 0 c ≡ 1) ⊎ ((a : ℕ) × (b : ℕ) × Gap n E a b) → (E 0 k ≡ 0) ⊎ (E 0 k ≡ 1) → (0 < k) ⊎ (k ≤ 0)
          → ((c : ℕ) → 0 < c → c < suc k → E 0 c ≡ 1) ⊎ ((a : ℕ) × (b : ℕ) × Gap n E a b)
      go (inr x) y z = inr x
      go (inl x) (inl y) (inl z) = inr (gap_around k z (omega arith) y)
      go (inl x) (inl y) (inr z) = inl (λ c p q. absurd (omega arith))
      go (inl x) (inr y) z = inl (λ c p q. at c p q (cases_order c k))
        where
          at : (c : ℕ) → 0 < c → c < suc k → (c ≡ k) ⊎ ((c < k) ⊎ (k < c)) → E 0 c ≡ 1
          at c p q (inl s) = ap (E 0) s ∙ y
          at c p q (inr (inl s)) = x c p s
          at c p q (inr (inr s)) = absurd (omega arith)

  pub full_or_gap : Full n E ⊎ ((a : ℕ) × (b : ℕ) × Gap n E a b)
  full_or_gap = full_by n (omega arith)

  -- with corner 0 joined to all, no wide edge leaves corner 0 out
  pub full_fan : Full n E → (a b : ℕ) → 0 < a → a + 1 < b → E a b ≡ 1 → ⊥
  full_fan full a b h w e =
      let l = g.ends a b e in
      g.plane 0 (a + 1) a b (full (a + 1) (omega arith) (omega arith)) e h (omega arith) w
