-- The rows of a set, made from those of the sides by one member after the other: after the numbers below e.
use Rattle.std.proofs.Common.{◌≡◌, ℕ, ◌+◌, ◌-◌, ◌<◌, ◌≤◌, true, cond, ltb, ◌⊎◌, List, length, sym, ap, ◌∙◌, subst, inl, inr, arith}
use Rattle.std.proofs.lemmas.Bool.{cases_order, cond-true, cond-false, lt-ltb, le-ltb}
use Rattle.pairs.specs.Pairs.{corners_of}
use Rattle.triangulations.proofs.Edges.{diagonal_numbered}
use Rattle.triangulations.proofs.Tests.{diagonal_decides}
use Rattle.triangulations.specs.Polygon.{Diagonal, is_diagonal}
use Rattle.triangulations.specs.Textbook.{PairSet}
use Rattle.polygon.proofs.Ties.{turned, turned_here, turned_else, switch_tied, length_switched}
use Rattle.polygon.specs.Rows.{Tied, bare, switched}
use Rattle.polygon.proofs.Agreement.{Agree, tied_same}

pub first_of : PairSet → ℕ → PairSet
first_of S e x = cond (ltb x e) (S x) 0

pub first_under : (S : PairSet) (e x : ℕ) → x < e → first_of S e x ≡ S x
unfolding first_of
first_under S e x h = cond-true (ltb x e) (S x) 0 (lt-ltb x e h)

pub first_over : (S : PairSet) (e x : ℕ) → e ≤ x → first_of S e x ≡ 0
unfolding first_of
first_over S e x h = cond-false (ltb x e) (S x) 0 (le-ltb x e h)

pub first_start : (n : ℕ) (S : PairSet) → Agree n bare (first_of S 0)
unfolding bare
first_start n S e d = sym (first_over S 0 e (omega arith))

pub first_end : (n : ℕ) (S : PairSet) → Agree n (first_of S 276) S
first_end n S e d = first_under S 276 e (diagonal_numbered n e d).0

-- pair e is no diagonal, or no member
pub first_skip : (n : ℕ) (S : PairSet) (e : ℕ) → (Diagonal n (corners_of e) → S e ≡ 0) → Agree n (first_of S e) (first_of S (e + 1))
first_skip n S e h x d = go (cases_order x e)
  where
    go : (x ≡ e) ⊎ ((x < e) ⊎ (e < x)) → first_of S e x ≡ first_of S (e + 1) x
    go (inl q) =
        first_over S e x (omega arith)
        ∙ sym (first_under S (e + 1) x (omega arith) ∙ ap S q ∙ h (subst (λ (y : ℕ). Diagonal n (corners_of y)) q d))
    go (inr (inl q)) = first_under S e x q ∙ sym (first_under S (e + 1) x (omega arith))
    go (inr (inr q)) = first_over S e x (omega arith) ∙ sym (first_over S (e + 1) x (omega arith))

first_turn : (n : ℕ) (S : PairSet) (e : ℕ) → S e ≡ 1 → Agree n (turned (first_of S e) e) (first_of S (e + 1))
first_turn n S e m x d = go (cases_order x e)
  where
    go : (x ≡ e) ⊎ ((x < e) ⊎ (e < x)) → turned (first_of S e) e x ≡ first_of S (e + 1) x
    go (inl q) =
        turned_here (first_of S e) e x q ∙ ap (λ (y : ℕ). 1 - y) (first_over S e x (omega arith))
        ∙ sym (first_under S (e + 1) x (omega arith) ∙ ap S q ∙ m)
    go (inr (inl q)) = turned_else (first_of S e) e x (λ z. omega arith) ∙ first_under S e x q ∙ sym (first_under S (e + 1) x (omega arith))
    go (inr (inr q)) = turned_else (first_of S e) e x (λ z. omega arith) ∙ first_over S e x (omega arith) ∙ sym (first_over S (e + 1) x (omega arith))

pub first_more : (n : ℕ) (S : PairSet) (e : ℕ) (rows : List ℕ) → n ≤ 24 → Diagonal n (corners_of e) → S e ≡ 1 → length rows ≡ 24
    → Tied n (first_of S e) rows → Tied n (first_of S (e + 1)) (switched rows (corners_of e).0 (corners_of e).1)
first_more n S e rows few d m long tie =
    tied_same n (turned (first_of S e) e) (first_of S (e + 1)) few (first_turn n S e m) (switched rows (corners_of e).0 (corners_of e).1)
    (subst (λ (x : ℕ). Tied n (turned (first_of S e) x) (switched rows (corners_of e).0 (corners_of e).1)) (diagonal_numbered n e d).1
    (switch_tied n (first_of S e) rows (corners_of e).0 (corners_of e).1 few long d tie))

-- the rows of the members below e
abbrev pub Gathered : ℕ → PairSet → ℕ → List ℕ → Type 0
Gathered n S e rows = (length rows ≡ 24) × Tied n (first_of S e) rows

module _ (n : ℕ) (S : PairSet) (e : ℕ) (rows : List ℕ) (few : n ≤ 24) (so_far : Gathered n S e rows) (p : ℕ × ℕ) (at : p ≡ corners_of e) where
  pub gathered_in : is_diagonal n p ≡ true → S e ≡ 1 → (after : List ℕ) → after ≡ switched rows p.0 p.1 → Gathered n S (e + 1) after
  gathered_in h m after q =
      let d = (diagonal_decides n (corners_of e)).0 (ap (is_diagonal n) (sym at) ∙ h) in
      let same : after ≡ switched rows (corners_of e).0 (corners_of e).1 = q ∙ ap (λ (x : ℕ × ℕ). switched rows x.0 x.1) at in
      subst (λ (x : List ℕ). Gathered n S (e + 1) x) (sym same) (
        length_switched rows (corners_of e).0 (corners_of e).1 (omega arith) (omega arith) (λ z. omega arith) ∙ so_far.0,
        first_more n S e rows few d m so_far.0 so_far.1,
      )

  pub gathered_out : (is_diagonal n p ≡ true → S e ≡ 0) → (after : List ℕ) → after ≡ rows → Gathered n S (e + 1) after
  gathered_out h after q =
      subst (λ (x : List ℕ). Gathered n S (e + 1) x) (sym q) (
        so_far.0,
        tied_same n (first_of S e) (first_of S (e + 1)) few
            (first_skip n S e (λ d. h (ap (is_diagonal n) at ∙ (diagonal_decides n (corners_of e)).1 d))) rows so_far.1,
      )
