-- The two diagonals of a quadrilateral of a drawing replace each other.
use Rattle.std.proofs.Common.{◌≡◌, ℕ, ◌<◌, ◌⊎◌, inl, inr, arith}
use Rattle.std.proofs.lemmas.Bool.{cases_order}
use Rattle.triangulations.specs.Polygon.{Cross}
use Rattle.triangulations.proofs.Drawings.{Drawn}
use Rattle.triangulations.proofs.Corners.{apart}
use Rattle.triangulations.proofs.Exchanges.{Is, Guard, Exchange}

-- four corners in order, each joined to the next and the last to the first
pub record Quad (E : ℕ → ℕ → ℕ) (w x y z : ℕ) : Type 0 where
  pub first : w < x
  pub second : x < y
  pub third : y < z
  pub one : E w x ≡ 1
  pub two : E x y ≡ 1
  pub three : E y z ≡ 1
  pub four : E w z ≡ 1

module _ (n : ℕ) (E : ℕ → ℕ → ℕ) (w x y z : ℕ) (g : Drawn n E) (q : Quad E w x y z) where
  -- an edge that crosses one diagonal of the quadrilateral is the other
  only-low : (r s : ℕ) → E r s ≡ 1 → Cross (x, z) (r, s) → Is r s w y
  only-low r s e (inl t) = absurd (omega (arith, apart n E g w z r s q.four e, q.first, q.second, q.third))
  only-low r s e (inr t) =
      omega (
        arith,
        apart n E g r s x y e q.two,
        apart n E g r s y z e q.three,
        apart n E g r s w z e q.four,
        apart n E g w x r s q.one e,
        q.first,
        q.second,
        q.third,
      )

  only_high : (r s : ℕ) → E r s ≡ 1 → Cross (w, y) (r, s) → Is r s x z
  only_high r s e (inl t) =
      omega (
        arith,
        apart n E g w x r s q.one e,
        apart n E g x y r s q.two e,
        apart n E g r s y z e q.three,
        apart n E g w z r s q.four e,
        q.first,
        q.second,
        q.third,
      )
  only_high r s e (inr t) = absurd (omega (arith, apart n E g r s w z e q.four, q.first, q.second, q.third))

  -- what crosses one diagonal is the other diagonal or crosses a side of the quadrilateral
  module _ (r s : ℕ) where
    guard-high : Cross (r, s) (w, y) → Is r s x z ⊎ Guard E w y r s
    guard-high (inl t) =
        inr (record { from = w; to = z; edge = q.four; other = λ v. omega (arith, q.third); how = inl (t.0, t.1, omega (arith, q.third)) })
    guard-high (inr t) = go (cases_order r x) (cases_order s z)
      where
        go : (r ≡ x) ⊎ ((r < x) ⊎ (x < r)) → (s ≡ z) ⊎ ((s < z) ⊎ (z < s)) → Is r s x z ⊎ Guard E w y r s
        go (inl u) (inr (inr v)) =
            inr (record { from = w; to = z; edge = q.four; other = λ p. omega (arith, q.third); how = inr (t.0, omega (arith, q.third), v) })
        go (inl u) (inl v) = inl (u, v)
        go (inl u) (inr (inl v)) =
            inr (record { from = y; to = z; edge = q.three; other = λ p. omega (arith, q.first, q.second); how = inl (t.1, t.2, v) })
        go (inr (inl u)) v =
            inr (record { from = w; to = x; edge = q.one; other = λ p. omega (arith, q.second); how = inr (t.0, u, omega (arith, q.second)) })
        go (inr (inr u)) v =
            inr (record { from = x; to = y; edge = q.two; other = λ p. omega (arith, q.first); how = inr (u, t.1, t.2) })

    guard-low : Cross (r, s) (x, z) → Is r s w y ⊎ Guard E x z r s
    guard-low (inr t) =
        inr (record { from = w; to = z; edge = q.four; other = λ v. omega (arith, q.first); how = inr (omega (arith, q.first), t.1, t.2) })
    guard-low (inl t) = go (cases_order r w) (cases_order s y)
      where
        go : (r ≡ w) ⊎ ((r < w) ⊎ (w < r)) → (s ≡ y) ⊎ ((s < y) ⊎ (y < s)) → Is r s w y ⊎ Guard E x z r s
        go (inl u) (inl v) = inl (u, v)
        go (inl u) (inr (inl v)) =
            inr (record { from = x; to = y; edge = q.two; other = λ p. omega (arith, q.third); how = inl (t.0, t.1, v) })
        go (inl u) (inr (inr v)) =
            inr (record { from = y; to = z; edge = q.three; other = λ p. omega (arith, q.second); how = inl (omega (arith, q.first, q.second), v, t.2) })
        go (inr (inl u)) v =
            inr (record { from = w; to = z; edge = q.four; other = λ p. omega (arith, q.first); how = inl (u, omega (arith, q.first), t.2) })
        go (inr (inr u)) v =
            inr (record { from = w; to = x; edge = q.one; other = λ p. omega (arith, q.first); how = inr (u, t.0, t.1) })

  -- (w, y) for (x, z), and back
  pub low_out : E w y ≡ 1 → Exchange n E w y x z
  low_out e =
      record {
        goes = e;
        not_short = omega (arith, q.first, q.second);
        not_long = inr (omega (arith, q.third, g.ends w z q.four));
        ascending = omega (arith, q.second, q.third);
        within = (g.ends w z q.four).1;
        they_cross = inl (q.first, q.second, q.third);
        nothing_else = only-low;
        guarded = λ r s h i t. guard-high r s t;
      }

  pub high_out : E x z ≡ 1 → Exchange n E x z w y
  high_out e =
      record {
        goes = e;
        not_short = omega (arith, q.second, q.third);
        not_long = inl (omega (arith, q.first));
        ascending = omega (arith, q.first, q.second);
        within = omega (arith, q.third, g.ends w z q.four);
        they_cross = inr (q.first, q.second, q.third);
        nothing_else = only_high;
        guarded = λ r s h i t. guard-low r s t;
      }
