-- The test for triangulations decides what a triangulation is.
use Rattle.std.proofs.Common.{◌≡◌, ℕ, ◌<◌, ◌≤◌, Bool, true, false, not, eqb, ◌⊎◌, Decides, sym, refl, ap, ◌∙◌, inl, inr, arith}
use Rattle.std.proofs.lemmas.Bool.{cases_lt, eqb-true, eq-eqb, not-true, both_ways, not_from_false}
use Rattle.pairs.specs.Pairs.{corners_of, pair_count}
use Rattle.pairs.proofs.Numbers.{number_below}
use Rattle.triangulations.specs.Objects.{uncrossed, belongs, placed, is_triangulation}
use Rattle.triangulations.specs.Polygon.{Diagonal, Cross, crosses, is_diagonal}
use Rattle.triangulations.specs.Search.{every}
use Rattle.triangulations.specs.Textbook.{PairSet, Triangulation}
use Rattle.triangulations.proofs.Drawing.{Small}
use Rattle.triangulations.proofs.Edges.{diagonal_numbered}
use Rattle.triangulations.proofs.Searches.{every_each, every_from}
use Rattle.triangulations.proofs.Tests.{diagonal_decides, crosses_decides}

-- no member crosses pair e
abbrev Free : PairSet → ℕ → Type 0
Free S e = (f : ℕ) → S f ≡ 1 → Cross (corners_of e) (corners_of f) → ⊥

pub diagonal_below : (n e : ℕ) → Diagonal n (corners_of e) → e < pair_count n
diagonal_below n e d =
    omega (arith, (diagonal_numbered n e d).1, number_below (corners_of e).0 (corners_of e).1 n d.0 d.1)

module _ (n : ℕ) (S : PairSet) (e : ℕ) where
  -- one turn of the test for crossings
  turn : ℕ → Bool
  turn f = elim (eqb (S f) 1) [ true ↦ not (crosses (corners_of e) (corners_of f)) | false ↦ true ]

  turn_at : (f : ℕ) (b : Bool) → eqb (S f) 1 ≡ b → turn f ≡ (elim b [ true ↦ not (crosses (corners_of e) (corners_of f)) | false ↦ true ])
  unfolding turn
  turn_at f b h = ap (λ (x : Bool). elim x [ true ↦ not (crosses (corners_of e) (corners_of f)) | false ↦ true ]) h

  pub uncrossed_each : uncrossed n S e ≡ true → (f : ℕ) → f < pair_count n → S f ≡ 1 → Cross (corners_of e) (corners_of f) → ⊥
  unfolding uncrossed turn
  uncrossed_each u f l m x =
      let here = every_each (pair_count n) turn u f l in
      let apart = not-true (crosses (corners_of e) (corners_of f)) (sym (turn_at f true (eq-eqb (S f) 1 m)) ∙ here) in
      both_ways (crosses (corners_of e) (corners_of f)) apart ((crosses_decides (corners_of e) (corners_of f)).1 x)

  free-from : ((f : ℕ) → S f ≡ 1 → f < pair_count n) → uncrossed n S e ≡ true → Free S e
  free-from below u f m x = uncrossed_each u f (below f m) m x

  pub uncrossed_all : ((f : ℕ) → f < pair_count n → S f ≡ 1 → Cross (corners_of e) (corners_of f) → ⊥) → uncrossed n S e ≡ true
  unfolding uncrossed turn
  uncrossed_all free = every_from (pair_count n) turn (λ f l. each f l (eqb (S f) 1) refl)
    where
      apart : (f : ℕ) → f < pair_count n → S f ≡ 1 → (b : Bool) → crosses (corners_of e) (corners_of f) ≡ b → not (crosses (corners_of e) (corners_of f)) ≡ true
      apart f l m true c = absurd (free f l m ((crosses_decides (corners_of e) (corners_of f)).0 c))
      apart f l m false c = not_from_false (crosses (corners_of e) (corners_of f)) c

      each : (f : ℕ) → f < pair_count n → (b : Bool) → eqb (S f) 1 ≡ b → turn f ≡ true
      each f l true h = turn_at f true h ∙ apart f l (eqb-true (S f) 1 h) (crosses (corners_of e) (corners_of f)) refl
      each f l false h = turn_at f false h

  uncrossed-from : Free S e → uncrossed n S e ≡ true
  uncrossed-from free = uncrossed_all (λ f l m x. free f m x)

  pub belongs_at : (b : Bool) → is_diagonal n (corners_of e) ≡ b → belongs n S e ≡ (elim b [ true ↦ uncrossed n S e | false ↦ false ])
  unfolding belongs
  belongs_at b h = ap (λ (x : Bool). elim x [ true ↦ uncrossed n S e | false ↦ false ]) h

  belongs-parts : belongs n S e ≡ true → Diagonal n (corners_of e) × (uncrossed n S e ≡ true)
  belongs-parts t = go (is_diagonal n (corners_of e)) refl
    where
      go : (b : Bool) → is_diagonal n (corners_of e) ≡ b → Diagonal n (corners_of e) × (uncrossed n S e ≡ true)
      go true h = ((diagonal_decides n (corners_of e)).0 h, sym (belongs_at true h) ∙ t)
      go false h = absurd (both_ways (belongs n S e) (belongs_at false h) t)

  belongs-from : Diagonal n (corners_of e) → uncrossed n S e ≡ true → belongs n S e ≡ true
  belongs-from d u = belongs_at true ((diagonal_decides n (corners_of e)).1 d) ∙ u

  pub placed_at : (b : Bool) → belongs n S e ≡ b → placed n S e ≡ (elim b [ true ↦ eqb (S e) 1 | false ↦ eqb (S e) 0 ])
  unfolding placed
  placed_at b h = ap (λ (x : Bool). elim x [ true ↦ eqb (S e) 1 | false ↦ eqb (S e) 0 ]) h

  placed-in : placed n S e ≡ true → S e ≡ 1 → belongs n S e ≡ true
  placed-in p m = go (belongs n S e) refl
    where
      go : (b : Bool) → belongs n S e ≡ b → belongs n S e ≡ true
      go true h = h
      go false h = absurd (omega (arith, eqb-true (S e) 0 (sym (placed_at false h) ∙ p)))

  placed-out : placed n S e ≡ true → belongs n S e ≡ true → S e ≡ 1
  placed-out p h = eqb-true (S e) 1 (sym (placed_at true h) ∙ p)

  placed-from : S e ≤ 1 → (belongs n S e ≡ true → S e ≡ 1) → (S e ≡ 1 → belongs n S e ≡ true) → placed n S e ≡ true
  placed-from small to back = go (belongs n S e) refl
    where
      zero-digit : belongs n S e ≡ false → (b : Bool) → eqb (S e) 1 ≡ b → S e ≡ 0
      zero-digit h true k = absurd (both_ways (belongs n S e) h (back (eqb-true (S e) 1 k)))
      zero-digit h false k = omega (arith, λ (q : S e ≡ 1). both_ways (eqb (S e) 1) k (eq-eqb (S e) 1 q))

      go : (b : Bool) → belongs n S e ≡ b → placed n S e ≡ true
      go true h = placed_at true h ∙ eq-eqb (S e) 1 (to h)
      go false h = placed_at false h ∙ eq-eqb (S e) 0 (zero-digit h (eqb (S e) 1) refl)

pub triangulation_decides : (n : ℕ) (S : PairSet) → Small S → ((e : ℕ) → 280 ≤ e → S e ≡ 0) → Decides (is_triangulation n S) (Triangulation n S)
unfolding is_triangulation
triangulation_decides n S small none = (to, from)
  where
    to : every 280 (placed n S) ≡ true → Triangulation n S
    to t = record { only_diagonals = only; none_cross = λ e f p q x. free e p f q x; none_missing = missing }
      where
        at : (e : ℕ) → S e ≡ 1 → (e < 280) ⊎ (280 ≤ e) → placed n S e ≡ true
        at e m (inl h) = every_each 280 (placed n S) t e h
        at e m (inr h) = absurd (omega (arith, none e h))

        parts : (e : ℕ) → S e ≡ 1 → Diagonal n (corners_of e) × (uncrossed n S e ≡ true)
        parts e m = belongs-parts n S e (placed-in n S e (at e m (cases_lt e 280)) m)

        only : (e : ℕ) → S e ≡ 1 → Diagonal n (corners_of e)
        only e m = (parts e m).0

        free : (e : ℕ) → S e ≡ 1 → Free S e
        free e m = free-from n S e (λ f q. diagonal_below n f (only f q)) (parts e m).1

        missing : (e : ℕ) → Diagonal n (corners_of e) → Free S e → S e ≡ 1
        missing e d h =
            let l = (diagonal_numbered n e d).0 in
            placed-out n S e (every_each 280 (placed n S) t e (omega arith)) (belongs-from n S e d (uncrossed-from n S e h))

    from : Triangulation n S → every 280 (placed n S) ≡ true
    from t = every_from 280 (placed n S) (λ e l. placed-from n S e (small e) (there e) (back e))
      where
        below : (f : ℕ) → S f ≡ 1 → f < pair_count n
        below f m = diagonal_below n f (t.only_diagonals f m)

        there : (e : ℕ) → belongs n S e ≡ true → S e ≡ 1
        there e b =
            let w = belongs-parts n S e b in
            t.none_missing e w.0 (free-from n S e below w.1)

        back : (e : ℕ) → S e ≡ 1 → belongs n S e ≡ true
        back e m = belongs-from n S e (t.only_diagonals e m) (uncrossed-from n S e (λ f q x. t.none_cross e f m q x))
