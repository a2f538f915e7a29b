-- One edge of a drawing replaced by another.
use Rattle.std.proofs.Common.{◌≡◌, ℕ, ◌+◌, ◌-◌, ◌<◌, ◌≤◌, ◌⊎◌, sym, ap, ◌∙◌, inl, inr, arith}
use Rattle.std.proofs.lemmas.Bool.{cases_eq}
use Rattle.triangulations.specs.Polygon.{Cross}
use Rattle.triangulations.proofs.Drawings.{Crossed, Drawn}

-- (r, s) is the pair (a, b)
abbrev pub Is : ℕ → ℕ → ℕ → ℕ → Type 0
Is r s a b = (r ≡ a) × (s ≡ b)

pub is_or_not : (r s a b : ℕ) → Is r s a b ⊎ (Is r s a b → ⊥)
is_or_not r s a b = go (cases_eq r a) (cases_eq s b)
  where
    go : (r ≡ a) ⊎ (r ≡ a → ⊥) → (s ≡ b) ⊎ (s ≡ b → ⊥) → Is r s a b ⊎ (Is r s a b → ⊥)
    go (inl x) (inl y) = inl (x, y)
    go (inl x) (inr y) = inr (λ w. y w.1)
    go (inr x) y = inr (λ w. x w.0)

-- an edge other than (a, b) that crosses the pair (r, s)
pub record Guard (E : ℕ → ℕ → ℕ) (a b r s : ℕ) : Type 0 where
  pub from : ℕ
  pub to : ℕ
  pub edge : E from to ≡ 1
  pub other : Is from to a b → ⊥
  pub how : Cross (r, s) (from, to)

-- The edge (a, b) can be replaced by (c, d): it is no side, they cross, nothing else crosses (c, d), and what
-- (a, b) crosses is (c, d) or is crossed by another edge too.
pub record Exchange (n : ℕ) (E : ℕ → ℕ → ℕ) (a b c d : ℕ) : Type 0 where
  pub goes : E a b ≡ 1
  pub not_short : a + 1 < b
  pub not_long : (0 < a) ⊎ (b < n - 1)
  pub ascending : c < d
  pub within : d < n
  pub they_cross : Cross (a, b) (c, d)
  pub nothing_else : (r s : ℕ) → E r s ≡ 1 → Cross (c, d) (r, s) → Is r s a b
  pub guarded : (r s : ℕ) → r < s → s < n → Cross (r, s) (a, b) → Is r s c d ⊎ Guard E a b r s

-- what the drawing is afterwards
pub record Changed (E F : ℕ → ℕ → ℕ) (a b c d : ℕ) : Type 0 where
  pub gone : F a b ≡ 0
  pub come : F c d ≡ 1
  pub kept : (r s : ℕ) → (Is r s a b → ⊥) → (Is r s c d → ⊥) → F r s ≡ E r s

at : (F : ℕ → ℕ → ℕ) (r s a b : ℕ) → Is r s a b → F r s ≡ F a b
at F r s a b w = ap (λ (x : ℕ). F x s) w.0 ∙ ap (λ (y : ℕ). F a y) w.1

module _ (n : ℕ) (E F : ℕ → ℕ → ℕ) (a b c d : ℕ) (g : Drawn n E) (x : Exchange n E a b c d) (ch : Changed E F a b c d) where
  -- an edge afterwards is the new one or an old one that is not the one replaced
  old-or-new : (r s : ℕ) → F r s ≡ 1 → Is r s c d ⊎ ((E r s ≡ 1) × (Is r s a b → ⊥))
  old-or-new r s e = go (is_or_not r s a b) (is_or_not r s c d)
    where
      go : Is r s a b ⊎ (Is r s a b → ⊥) → Is r s c d ⊎ (Is r s c d → ⊥) → Is r s c d ⊎ ((E r s ≡ 1) × (Is r s a b → ⊥))
      go (inl w) v = absurd (omega (arith, at F r s a b w, ch.gone))
      go (inr w) (inl v) = inl v
      go (inr w) (inr v) = inr (sym (ch.kept r s w v) ∙ e, w)

  -- an old edge that is not the one replaced stays
  stays : (r s : ℕ) → E r s ≡ 1 → (Is r s a b → ⊥) → F r s ≡ 1
  stays r s e w = go (is_or_not r s c d)
    where
      go : Is r s c d ⊎ (Is r s c d → ⊥) → F r s ≡ 1
      go (inl v) = at F r s c d v ∙ ch.come
      go (inr v) = ch.kept r s w v ∙ e

  new-digit : (r s : ℕ) → F r s ≤ 1
  new-digit r s = go (is_or_not r s a b) (is_or_not r s c d)
    where
      go : Is r s a b ⊎ (Is r s a b → ⊥) → Is r s c d ⊎ (Is r s c d → ⊥) → F r s ≤ 1
      go (inl w) v = omega (arith, at F r s a b w, ch.gone)
      go (inr w) (inl v) = omega (arith, at F r s c d v, ch.come)
      go (inr w) (inr v) = omega (arith, ch.kept r s w v, g.digit r s)

  new-ends : (r s : ℕ) → F r s ≡ 1 → (r < s) × (s < n)
  new-ends r s e = go (old-or-new r s e)
    where
      go : Is r s c d ⊎ ((E r s ≡ 1) × (Is r s a b → ⊥)) → (r < s) × (s < n)
      go (inl v) = (omega (arith, x.ascending), omega (arith, x.within))
      go (inr v) = g.ends r s v.0

  new-plane : (p q r s : ℕ) → F p q ≡ 1 → F r s ≡ 1 → p < r → r < q → q < s → ⊥
  new-plane p q r s e f h i k = go (old-or-new p q e) (old-or-new r s f)
    where
      go : Is p q c d ⊎ ((E p q ≡ 1) × (Is p q a b → ⊥)) → Is r s c d ⊎ ((E r s ≡ 1) × (Is r s a b → ⊥)) → ⊥
      go (inl u) (inl v) = omega arith
      go (inl u) (inr v) = v.1 (x.nothing_else r s v.0 (inl (omega arith, omega arith, omega arith)))
      go (inr u) (inl v) = u.1 (x.nothing_else p q u.0 (inr (omega arith, omega arith, omega arith)))
      go (inr u) (inr v) = g.plane p q r s u.0 v.0 h i k

  new-full : (r s : ℕ) → r < s → s < n → F r s ≡ 0 → Crossed F r s
  new-full r s h i z = go (is_or_not r s a b) (is_or_not r s c d)
    where
      replaced : Is r s a b → Crossed F r s
      replaced w = record { from = c; to = d; edge = ch.come; how = turn x.they_cross }
        where
          turn : Cross (a, b) (c, d) → Cross (r, s) (c, d)
          turn (inl t) = inl (omega arith, omega arith, omega arith)
          turn (inr t) = inr (omega arith, omega arith, omega arith)

      guard : Is r s c d ⊎ Guard E a b r s → Crossed F r s
      guard (inl v) = absurd (omega (arith, at F r s c d v, ch.come))
      guard (inr y) =
          record { from = y.from; to = y.to; edge = stays y.from y.to y.edge y.other; how = y.how }

      by : (y : Crossed E r s) → Is y.from y.to a b ⊎ (Is y.from y.to a b → ⊥) → Crossed F r s
      by y (inl w) = guard (x.guarded r s h i (turn y.how))
        where
          turn : Cross (r, s) (y.from, y.to) → Cross (r, s) (a, b)
          turn (inl t) = inl (omega arith, omega arith, omega arith)
          turn (inr t) = inr (omega arith, omega arith, omega arith)
      by y (inr w) = record { from = y.from; to = y.to; edge = stays y.from y.to y.edge w; how = y.how }

      go : Is r s a b ⊎ (Is r s a b → ⊥) → Is r s c d ⊎ (Is r s c d → ⊥) → Crossed F r s
      go (inl w) v = replaced w
      go (inr w) (inl v) = absurd (omega (arith, at F r s c d v, ch.come))
      go (inr w) (inr v) =
          let y = g.full r s h i (sym (ch.kept r s w v) ∙ z) in by y (is_or_not y.from y.to a b)

  pub redrawn : Drawn n F
  redrawn =
      record {
        large = g.large;
        digit = new-digit;
        ends = new-ends;
        short = λ r h. stays r (r + 1) (g.short r h) (λ w. omega (arith, x.not_short));
        long = stays 0 (n - 1) g.long (λ w. omega (arith, x.not_long));
        plane = new-plane;
        full = new-full;
      }
