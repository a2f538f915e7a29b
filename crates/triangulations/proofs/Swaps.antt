-- A set with one pair in place of another.
use Rattle.std.proofs.Common.{◌≡◌, ℕ, ◌≤◌, cond, eqb, ◌⊎◌, sym, refl, ap, ◌∙◌, subst, inl, inr, arith}
use mathlib.Core.Path.{fun_ext}
use Rattle.std.proofs.lemmas.Bool.{cases_eq, cond-true, cond-false, eq-eqb, ne_eqb}
use Rattle.triangulations.specs.Moves.{edge, exchanged}
use Rattle.triangulations.specs.Polygon.{Diagonal}
use Rattle.triangulations.specs.Textbook.{PairSet}
use Rattle.pairs.specs.Pairs.{number, corners_of}
use Rattle.pairs.proofs.Numbers.{number_once}
use Rattle.triangulations.proofs.Drawing.{Small}
use Rattle.triangulations.proofs.Edges.{Kind, kind, a_side, a_diagonal, no_pair, edge_side, edge_member, edge_none}
use Rattle.triangulations.proofs.Exchanges.{Is, Changed}

module _ (S : PairSet) (e f : ℕ) where
  pub swap_out : exchanged S e f e ≡ 0
  unfolding exchanged
  swap_out = cond-true (eqb e e) 0 (cond (eqb e f) 1 (S e)) (eq-eqb e e refl)

  pub swap_in : (f ≡ e → ⊥) → exchanged S e f f ≡ 1
  unfolding exchanged
  swap_in h = cond-false (eqb f e) 0 (cond (eqb f f) 1 (S f)) (ne_eqb f e h) ∙ cond-true (eqb f f) 1 (S f) (eq-eqb f f refl)

  pub swap_other : (x : ℕ) → (x ≡ e → ⊥) → (x ≡ f → ⊥) → exchanged S e f x ≡ S x
  unfolding exchanged
  swap_other x h k =
      cond-false (eqb x e) 0 (cond (eqb x f) 1 (S x)) (ne_eqb x e h) ∙ cond-false (eqb x f) 1 (S x) (ne_eqb x f k)

  -- each place of the new set
  pub data Place (x : ℕ) : Type 0 where
    gone : x ≡ e → exchanged S e f x ≡ 0 → Place x
    come : x ≡ f → exchanged S e f x ≡ 1 → Place x
    kept : (x ≡ e → ⊥) → (x ≡ f → ⊥) → exchanged S e f x ≡ S x → Place x

  pub place : (x : ℕ) → Place x
  place x = go (cases_eq x e) (cases_eq x f)
    where
      go : (x ≡ e) ⊎ (x ≡ e → ⊥) → (x ≡ f) ⊎ (x ≡ f → ⊥) → Place x
      go (inl h) k = gone h (ap (exchanged S e f) h ∙ swap_out)
      go (inr h) (inl k) = come k (ap (exchanged S e f) k ∙ swap_in (λ q. h (k ∙ q)))
      go (inr h) (inr k) = kept h k (swap_other x h k)

  pub swap_small : Small S → Small (exchanged S e f)
  swap_small small x = go (place x)
    where
      go : Place x → exchanged S e f x ≤ 1
      go (gone h v) = omega arith
      go (come h v) = omega arith
      go (kept h k v) = omega (arith, small x)

  pub swap_only : (n : ℕ) → ((x : ℕ) → S x ≡ 1 → Diagonal n (corners_of x)) → Diagonal n (corners_of f)
      → (x : ℕ) → exchanged S e f x ≡ 1 → Diagonal n (corners_of x)
  swap_only n only d x m = go (place x)
    where
      go : Place x → Diagonal n (corners_of x)
      go (gone h v) = absurd (omega arith)
      go (come h v) = subst (λ (y : ℕ). Diagonal n (corners_of y)) (sym h) d
      go (kept h k v) = only x (sym v ∙ m)

-- replaced and put back
pub swap_back : (S : PairSet) (e f : ℕ) → S e ≡ 1 → S f ≡ 0 → exchanged (exchanged S e f) f e ≡ S
swap_back S e f p q = fun_ext (λ x. go x (place (exchanged S e f) f e x))
  where
    first : (x : ℕ) → (x ≡ f → ⊥) → (x ≡ e → ⊥) → exchanged S e f x ≡ S x
    first x h k = swap_other S e f x k h

    go : (x : ℕ) → Place (exchanged S e f) f e x → exchanged (exchanged S e f) f e x ≡ S x
    go x (gone h v) = v ∙ sym (ap S h ∙ q)
    go x (come h v) = v ∙ sym (ap S h ∙ p)
    go x (kept h k v) = v ∙ first x h k

-- the drawing changes at the two pairs alone
pub swap_changed : (n : ℕ) (S : PairSet) (a b c d : ℕ) → Diagonal n (a, b) → Diagonal n (c, d) → (Is a b c d → ⊥)
    → Changed (edge n S) (edge n (exchanged S (number a b) (number c d))) a b c d
swap_changed n S a b c d p q apart =
    record {
      gone = edge_member n T a b p ∙ swap_out S (number a b) (number c d);
      come = edge_member n T c d q ∙ swap_in S (number a b) (number c d) (λ m. apart (turned (number_once c d a b q.0 p.0 m)));
      kept = λ r s h k. each r s h k (kind n r s);
    }
  where
    T : PairSet
    T = exchanged S (number a b) (number c d)

    turned : Is c d a b → Is a b c d
    turned i = (sym i.0, sym i.1)

    each : (r s : ℕ) → (Is r s a b → ⊥) → (Is r s c d → ⊥) → Kind n r s → edge n T r s ≡ edge n S r s
    each r s h k (a_side l m x) = edge_side n T r s l m x ∙ sym (edge_side n S r s l m x)
    each r s h k (no_pair x) = edge_none n T r s x ∙ sym (edge_none n S r s x)
    each r s h k (a_diagonal x) =
        edge_member n T r s x
        ∙ swap_other S (number a b) (number c d) (number r s) (λ m. h (number_once r s a b x.0 p.0 m)) (λ m. k (number_once r s c d x.0 q.0 m))
        ∙ sym (edge_member n S r s x)
