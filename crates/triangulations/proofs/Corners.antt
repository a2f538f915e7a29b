-- The corners that form triangles with an edge: one below it, and one above it unless it is (0, n - 1).
use Rattle.std.proofs.Common.{◌≡◌, ℕ, zero, suc, ◌+◌, ◌-◌, ◌<◌, ◌≤◌, ◌⊎◌, sym, ap, ◌∙◌, inl, inr, arith}
use Rattle.std.proofs.lemmas.Bool.{cases_order, cases_lt}
use Rattle.triangulations.proofs.Drawings.{Crossed, Drawn, digit_cases, Last, last_one}

abbrev pub Apart : ℕ → ℕ → ℕ → ℕ → Type 0
Apart a b c d = (c ≤ a) ⊎ ((b ≤ c) ⊎ (d ≤ b))

-- a corner between a and b that is joined to both
pub record Below (E : ℕ → ℕ → ℕ) (a b : ℕ) : Type 0 where
  pub corner : ℕ
  pub left : a < corner
  pub right : corner < b
  pub from : E a corner ≡ 1
  pub to : E corner b ≡ 1

-- a corner on the other side that is joined to both
abbrev pub Beyond : (ℕ → ℕ → ℕ) → ℕ → ℕ → ℕ → Type 0
Beyond E a b c = ((c < a) × (E c a ≡ 1) × (E c b ≡ 1)) ⊎ ((b < c) × (E a c ≡ 1) × (E b c ≡ 1))

module _ (n : ℕ) (E : ℕ → ℕ → ℕ) (g : Drawn n E) where
  -- two edges that do not cross, for `omega`
  pub apart : (a b c d : ℕ) → E a b ≡ 1 → E c d ≡ 1 → Apart a b c d
  apart a b c d e f = go (cases_lt a c) (cases_lt c b) (cases_lt b d)
    where
      go : (a < c) ⊎ (c ≤ a) → (c < b) ⊎ (b ≤ c) → (b < d) ⊎ (d ≤ b) → Apart a b c d
      go (inr x) y z = inl x
      go (inl x) (inr y) z = inr (inl y)
      go (inl x) (inl y) (inr z) = inr (inr z)
      go (inl x) (inl y) (inl z) = absurd (g.plane a b c d e f x y z)

  -- the last corner before b that is joined to a serves: were it not joined to b, an edge would cross the two,
  -- and that edge would cross (a, b) or the edge to a, or would lead from a further on
  pub below : (a b : ℕ) → E a b ≡ 1 → a + 1 < b → Below E a b
  below a b e h = go (digit_cases (E l.place b) (g.digit l.place b))
    where
      l : Last (E a) b
      l = last_one (E a) (g.digit a) b (a + 1) h (g.short a (omega (arith, g.ends a b e)))

      stuck : Crossed E l.place b → ⊥
      stuck x =
          elim x.how [
            | inl w ↦ g.plane a b x.from x.to e x.edge (omega (arith, g.ends a l.place l.is)) w.1 w.2
            | inr w ↦ left (cases_order x.from a) w
          ]
        where
          left : (x.from ≡ a) ⊎ ((x.from < a) ⊎ (a < x.from)) → (x.from < l.place) × (l.place < x.to) × (x.to < b) → ⊥
          left (inl s) w = omega (arith, ap (λ (t : ℕ). E t x.to) s, x.edge, l.none_after x.to w.1 w.2)
          left (inr (inl s)) w = g.plane x.from x.to a b x.edge e s (omega (arith, g.ends a l.place l.is)) w.2
          left (inr (inr s)) w = g.plane a l.place x.from x.to l.is x.edge s w.0 w.1

      go : (E l.place b ≡ 0) ⊎ (E l.place b ≡ 1) → Below E a b
      go (inl z) = absurd (stuck (g.full l.place b l.before (g.ends a b e).1 z))
      go (inr o) = record { corner = l.place; left = (g.ends a l.place l.is).0; right = l.before; from = l.is; to = o }

  pub below_once : (a b c d : ℕ) → a < c → c < b → E a c ≡ 1 → E c b ≡ 1 → a < d → d < b → E a d ≡ 1 → E d b ≡ 1 → c ≡ d
  below_once a b c d h i e f k l p q = omega (arith, apart a d c b p f, apart a c d b e q)

  -- from an enclosing edge down to (a, b): the corner below the enclosing edge gives a smaller one, or is the
  -- corner that is looked for
  descend : (a b : ℕ) → E a b ≡ 1 → (k p q : ℕ) → q ≤ p + k → E p q ≡ 1 → p ≤ a → b ≤ q → (p < a) ⊎ (b < q)
      → (c : ℕ) × Beyond E a b c
  descend a b e zero p q l f h i s = absurd (omega (arith, g.ends p q f))
  descend a b e (suc k) p q l f h i s =
      go (cases_lt a c) (cases_lt c b)
      (λ r. descend a b e k c q (omega (arith, t.left)) t.to r i)
      (λ r. descend a b e k p c (omega (arith, t.right)) t.from h r)
    where
      t : Below E p q
      t = below p q f (omega (arith, g.ends a b e))

      c : ℕ
      c = t.corner

      lower : c ≤ a → (c ≡ a) ⊎ ((c < a) ⊎ (a < c)) → (q ≡ b) ⊎ ((q < b) ⊎ (b < q))
          → (c ≤ a → (c < a) ⊎ (b < q) → (x : ℕ) × Beyond E a b x) → (x : ℕ) × Beyond E a b x
      lower r (inl u) (inl v) down =
          (p, inl (omega (arith, t.left), ap (λ (x : ℕ). E p x) (sym u) ∙ t.from, ap (λ (x : ℕ). E p x) (sym v) ∙ f))
      lower r (inl u) (inr (inl v)) down = absurd (omega arith)
      lower r (inl u) (inr (inr v)) down = down r (inr v)
      lower r (inr (inl u)) v down = down r (inl u)
      lower r (inr (inr u)) v down = absurd (omega arith)

      upper : b ≤ c → (c ≡ b) ⊎ ((c < b) ⊎ (b < c)) → (p ≡ a) ⊎ ((p < a) ⊎ (a < p))
          → (b ≤ c → (p < a) ⊎ (b < c) → (x : ℕ) × Beyond E a b x) → (x : ℕ) × Beyond E a b x
      upper r (inl u) (inl v) down =
          (q, inr (omega (arith, t.right), ap (λ (x : ℕ). E x q) (sym v) ∙ f, ap (λ (x : ℕ). E x q) (sym u) ∙ t.to))
      upper r (inl u) (inr (inl v)) down = down r (inl v)
      upper r (inl u) (inr (inr v)) down = absurd (omega arith)
      upper r (inr (inl u)) v down = absurd (omega arith)
      upper r (inr (inr u)) v down = down r (inr u)

      astride : a < c → c < b → (p < a) ⊎ (b < q) → ⊥
      astride u v (inl w) = g.plane p c a b t.from e w u v
      astride u v (inr w) = g.plane a b c q e t.to u v w

      go : (a < c) ⊎ (c ≤ a) → (c < b) ⊎ (b ≤ c) → (c ≤ a → (c < a) ⊎ (b < q) → (x : ℕ) × Beyond E a b x)
          → (b ≤ c → (p < a) ⊎ (b < c) → (x : ℕ) × Beyond E a b x) → (x : ℕ) × Beyond E a b x
      go (inr u) v down up = lower u (cases_order c a) (cases_order q b) down
      go (inl u) (inr v) down up = upper v (cases_order c b) (cases_order p a) up
      go (inl u) (inl v) down up = absurd (astride u v s)

  pub above : (a b : ℕ) → E a b ≡ 1 → (0 < a) ⊎ (b < n - 1) → (c : ℕ) × Beyond E a b c
  above a b e s = descend a b e n 0 (n - 1) (omega arith) g.long (omega arith) (omega (arith, g.ends a b e)) s

  pub above_once : (a b c d : ℕ) → E a b ≡ 1 → Beyond E a b c → Beyond E a b d → c ≡ d
  above_once a b c d e (inl x) (inl y) = omega (arith, apart c a d b x.1 y.2, apart d a c b y.1 x.2, g.ends a b e)
  above_once a b c d e (inl x) (inr y) = absurd (omega (arith, apart c b a d x.2 y.1, g.ends a b e))
  above_once a b c d e (inr x) (inl y) = absurd (omega (arith, apart d b a c y.2 x.1, g.ends a b e))
  above_once a b c d e (inr x) (inr y) = omega (arith, apart a c b d x.1 y.2, apart a d b c y.1 x.2, g.ends a b e)
