-- Triangulations as drawings: E a b is 1 if the corners a < b are joined by a side or a diagonal, else 0.
-- Nothing here knows how a set is kept.
use Rattle.std.proofs.Common.{◌≡◌, ℕ, zero, suc, ◌+◌, ◌-◌, ◌<◌, ◌≤◌, ◌⊎◌, refl, ap, ◌∙◌, inl, inr, arith}
use Rattle.std.proofs.lemmas.Bool.{cases_order}
use Rattle.triangulations.specs.Polygon.{Cross}

-- an edge that crosses the pair (a, b)
pub record Crossed (E : ℕ → ℕ → ℕ) (a b : ℕ) : Type 0 where
  pub from : ℕ
  pub to : ℕ
  pub edge : E from to ≡ 1
  pub how : Cross (a, b) (from, to)

-- A drawing has all sides, no two of its edges cross, and every pair that is not an edge is crossed by one.
pub record Drawn (n : ℕ) (E : ℕ → ℕ → ℕ) : Type 0 where
  pub large : 3 ≤ n
  pub digit : (a b : ℕ) → E a b ≤ 1
  pub ends : (a b : ℕ) → E a b ≡ 1 → (a < b) × (b < n)
  pub short : (a : ℕ) → a + 1 < n → E a (a + 1) ≡ 1
  pub long : E 0 (n - 1) ≡ 1
  pub plane : (a b c d : ℕ) → E a b ≡ 1 → E c d ≡ 1 → a < c → c < b → b < d → ⊥
  pub full : (a b : ℕ) → a < b → b < n → E a b ≡ 0 → Crossed E a b

pub digit_cases : (x : ℕ) → x ≤ 1 → (x ≡ 0) ⊎ (x ≡ 1)
digit_cases zero h = inl refl
digit_cases (suc x) h = inr (omega arith)

-- ---- searches in a row of digits

-- the last 1 before place b
pub record Last (f : ℕ → ℕ) (b : ℕ) : Type 0 where
  pub place : ℕ
  pub before : place < b
  pub is : f place ≡ 1
  pub none_after : (d : ℕ) → place < d → d < b → f d ≡ 0

pub last_one : (f : ℕ → ℕ) → ((i : ℕ) → f i ≤ 1) → (b a : ℕ) → a < b → f a ≡ 1 → Last f b
last_one f small zero a h e = absurd (omega arith)
last_one f small (suc b) a h e = go (digit_cases (f b) (small b)) (last_one f small b a)
  where
    further : Last f b → f b ≡ 0 → Last f (suc b)
    further l z =
        record {
          place = l.place;
          before = omega (arith, l.before);
          is = l.is;
          none_after = λ d p q. after d p q (cases_order d b);
        }
      where
        after : (d : ℕ) → l.place < d → d < suc b → (d ≡ b) ⊎ ((d < b) ⊎ (b < d)) → f d ≡ 0
        after d p q (inl s) = ap f s ∙ z
        after d p q (inr (inl s)) = l.none_after d p s
        after d p q (inr (inr s)) = absurd (omega arith)

    earlier : f b ≡ 0 → (a ≡ b) ⊎ ((a < b) ⊎ (b < a)) → a < b
    earlier z (inl s) = absurd (omega (arith, ap f s))
    earlier z (inr (inl s)) = s
    earlier z (inr (inr s)) = absurd (omega arith)

    go : (f b ≡ 0) ⊎ (f b ≡ 1) → (a < b → f a ≡ 1 → Last f b) → Last f (suc b)
    go (inl z) ih = further (ih (earlier z (cases_order a b)) e) z
    go (inr o) ih = record { place = b; before = omega arith; is = o; none_after = λ d p q. absurd (omega arith) }

-- the first 1 after place i
pub record Next (f : ℕ → ℕ) (i : ℕ) (most : ℕ) : Type 0 where
  pub place : ℕ
  pub after : i < place
  pub upto : place ≤ most
  pub is : f place ≡ 1
  pub none_before : (d : ℕ) → i < d → d < place → f d ≡ 0

next_by : (f : ℕ → ℕ) → ((i : ℕ) → f i ≤ 1) → (k i most : ℕ) → most ≤ i + k → i < most → f most ≡ 1 → Next f i most
next_by f small zero i most l h e = absurd (omega arith)
next_by f small (suc k) i most l h e = go (digit_cases (f (i + 1)) (small (i + 1))) (next_by f small k (i + 1) most (omega arith))
  where
    later : f (i + 1) ≡ 0 → (i + 1 ≡ most) ⊎ ((i + 1 < most) ⊎ (most < i + 1)) → i + 1 < most
    later z (inl s) = absurd (omega (arith, ap f s))
    later z (inr (inl s)) = s
    later z (inr (inr s)) = absurd (omega arith)

    here : f (i + 1) ≡ 0 → (d : ℕ) → i < d → (d ≡ i + 1) ⊎ ((d < i + 1) ⊎ (i + 1 < d)) → (i + 1 < d → f d ≡ 0) → f d ≡ 0
    here z d p (inl s) r = ap f s ∙ z
    here z d p (inr (inl s)) r = absurd (omega arith)
    here z d p (inr (inr s)) r = r s

    go : (f (i + 1) ≡ 0) ⊎ (f (i + 1) ≡ 1) → (i + 1 < most → f most ≡ 1 → Next f (i + 1) most) → Next f i most
    go (inl z) ih =
        let t = ih (later z (cases_order (i + 1) most)) e in
        record {
          place = t.place;
          after = omega (arith, t.after);
          upto = t.upto;
          is = t.is;
          none_before = λ d p q. here z d p (cases_order d (i + 1)) (λ r. t.none_before d r q);
        }
    go (inr o) ih =
        record { place = i + 1; after = omega arith; upto = omega arith; is = o; none_before = λ d p q. absurd (omega arith) }

pub next_one : (f : ℕ → ℕ) → ((i : ℕ) → f i ≤ 1) → (i most : ℕ) → i < most → f most ≡ 1 → Next f i most
next_one f small i most h e = next_by f small most i most (omega arith) h e
