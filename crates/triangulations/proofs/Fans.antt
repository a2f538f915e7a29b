-- The fan: every diagonal at corner 0.
use Rattle.std.proofs.Common.{◌≡◌, ℕ, ◌+◌, ◌<◌, ◌≤◌, Bool, true, false, cond, ◌&&◌, eqb, ◌⊎◌, Decides, sym, refl, ap, ◌∙◌, subst, inl, inr, arith}
use mathlib.Core.Path.{fun_ext}
use Rattle.std.proofs.lemmas.Bool.{cases_lt, cond-true}
use Rattle.std.proofs.lemmas.Bool.Decides.{Decides-eqb, Decides-and, not_from_Decides}
use Rattle.pairs.specs.Pairs.{number, corners_of}
use Rattle.triangulations.specs.Moves.{edge, fan}
use Rattle.triangulations.specs.Polygon.{Diagonal, Cross, is_diagonal}
use Rattle.triangulations.specs.Textbook.{PairSet, Triangulation}
use Rattle.triangulations.proofs.Drawing.{Small, member_edge, corners_pair, drawing}
use Rattle.triangulations.proofs.Drawings.{digit_cases}
use Rattle.triangulations.proofs.Edges.{Inner, inner, diagonal_from, diagonal_numbered, edge_member}
use Rattle.triangulations.proofs.Gaps.{Full, full_fan}
use Rattle.triangulations.proofs.Tests.{diagonal_decides}

-- pair e is a diagonal at corner 0
abbrev pub Spoke : ℕ → ℕ → Type 0
Spoke n e = Diagonal n (corners_of e) × ((corners_of e).0 ≡ 0)

spoke_decides : (n e : ℕ) → Decides (is_diagonal n (corners_of e) && eqb (corners_of e).0 0) (Spoke n e)
spoke_decides n e =
    Decides-and (is_diagonal n (corners_of e)) (eqb (corners_of e).0 0) (diagonal_decides n (corners_of e)) (Decides-eqb (corners_of e).0 0)

pub fan_in : (n e : ℕ) → Spoke n e → fan n e ≡ 1
unfolding fan
fan_in n e s = cond-true (is_diagonal n (corners_of e) && eqb (corners_of e).0 0) 1 0 ((spoke_decides n e).1 s)

fan_cases : (n e : ℕ) → (Spoke n e × (fan n e ≡ 1)) ⊎ ((Spoke n e → ⊥) × (fan n e ≡ 0))
unfolding fan
fan_cases n e = go (is_diagonal n (corners_of e) && eqb (corners_of e).0 0) refl
  where
    go : (b : Bool) → (is_diagonal n (corners_of e) && eqb (corners_of e).0 0) ≡ b
        → (Spoke n e × (fan n e ≡ 1)) ⊎ ((Spoke n e → ⊥) × (fan n e ≡ 0))
    go true h = inl ((spoke_decides n e).0 h, ap (λ (x : Bool). cond x 1 0) h)
    go false h = inr (not_from_Decides _ (spoke_decides n e) h, ap (λ (x : Bool). cond x 1 0) h)

pub fan_small : (n : ℕ) → Small (fan n)
fan_small n e = go (fan_cases n e)
  where
    go : (Spoke n e × (fan n e ≡ 1)) ⊎ ((Spoke n e → ⊥) × (fan n e ≡ 0)) → fan n e ≤ 1
    go (inl x) = omega (arith, x.1)
    go (inr x) = omega (arith, x.1)

pub fan_spoke : (n e : ℕ) → fan n e ≡ 1 → Spoke n e
fan_spoke n e m = go (fan_cases n e)
  where
    go : (Spoke n e × (fan n e ≡ 1)) ⊎ ((Spoke n e → ⊥) × (fan n e ≡ 0)) → Spoke n e
    go (inl x) = x.0
    go (inr x) = absurd (omega (arith, x.1))

pub fan_triangulation : (n : ℕ) → 3 ≤ n → n ≤ 24 → Triangulation n (fan n)
fan_triangulation n large few = record { only_diagonals = λ e m. (fan_spoke n e m).0; none_cross = apart; none_missing = missing }
  where
    apart : (e f : ℕ) → fan n e ≡ 1 → fan n f ≡ 1 → Cross (corners_of e) (corners_of f) → ⊥
    apart e f p q (inl x) = omega (arith, (fan_spoke n f q).1)
    apart e f p q (inr x) = omega (arith, (fan_spoke n e p).1)

    missing : (e : ℕ) → Diagonal n (corners_of e) → ((f : ℕ) → fan n f ≡ 1 → Cross (corners_of e) (corners_of f) → ⊥) → fan n e ≡ 1
    missing e d free = go (cases_lt 0 (corners_of e).0)
      where
        w : Inner n (corners_of e).0 (corners_of e).1
        w = inner n (corners_of e) d

        c : ℕ
        c = (corners_of e).0 + 1

        at : 0 < (corners_of e).0 → corners_of (number 0 c) ≡ (0, c)
        at h = corners_pair n (fan n) few 0 c (omega arith) (omega (arith, w.wide, w.within))

        spoke : 0 < (corners_of e).0 → fan n (number 0 c) ≡ 1
        spoke h =
            fan_in n (number 0 c)
            (subst (λ (x : ℕ × ℕ). Diagonal n x × (x.0 ≡ 0)) (sym (at h)) (
              diagonal_from n 0 c
                  (record { wide = omega arith; within = omega (arith, w.wide, w.within); cut = inr (omega (arith, w.wide, w.within)) }),
              refl,
            ))

        go : (0 < (corners_of e).0) ⊎ ((corners_of e).0 ≤ 0) → fan n e ≡ 1
        go (inl h) =
            absurd
            (free (number 0 c) (spoke h)
            (subst (λ (x : ℕ × ℕ). Cross (corners_of e) x) (sym (at h)) (inr (h, omega arith, w.wide))))
        go (inr h) = fan_in n e (d, omega arith)

-- a triangulation with corner 0 joined to all is the fan
module _ (n : ℕ) (S : PairSet) (large : 3 ≤ n) (few : n ≤ 24) (small : Small S) (t : Triangulation n S) where
  pub full_is_fan : Full n (edge n S) → S ≡ fan n
  full_is_fan full = fun_ext each
    where
      spoke : (e : ℕ) → S e ≡ 1 → Spoke n e
      spoke e m = (t.only_diagonals e m, go (cases_lt 0 (corners_of e).0))
        where
          go : (0 < (corners_of e).0) ⊎ ((corners_of e).0 ≤ 0) → (corners_of e).0 ≡ 0
          go (inl h) =
              absurd
              (full_fan n (edge n S) (drawing n S large few small t) full (corners_of e).0 (corners_of e).1 h
              (inner n (corners_of e) (t.only_diagonals e m)).wide (member_edge n S t.only_diagonals e m))
          go (inr h) = omega arith

      in-set : (e : ℕ) → Spoke n e → S e ≡ 1
      in-set e s =
          ap S (sym (diagonal_numbered n e s.0).1) ∙ sym (edge_member n S (corners_of e).0 (corners_of e).1 s.0)
          ∙ ap (λ (x : ℕ). edge n S x (corners_of e).1) s.1
          ∙ full (corners_of e).1 (omega (arith, s.0.0)) s.0.1

      each : (e : ℕ) → S e ≡ fan n e
      each e = go (fan_cases n e) (digit_cases (S e) (small e))
        where
          go : (Spoke n e × (fan n e ≡ 1)) ⊎ ((Spoke n e → ⊥) × (fan n e ≡ 0)) → (S e ≡ 0) ⊎ (S e ≡ 1) → S e ≡ fan n e
          go (inl x) y = in-set e x.0 ∙ sym x.1
          go (inr x) (inl y) = y ∙ sym x.1
          go (inr x) (inr y) = absurd (x.0 (spoke e y))
