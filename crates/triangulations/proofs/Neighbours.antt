-- A member replaced: the neighbour is a triangulation, and the replacement leads back.
use Rattle.std.proofs.Common.{◌≡◌, ℕ, ◌<◌, ◌≤◌, ◌⊎◌, Some, sym, refl, ap, ◌∙◌, subst, inl, inr, arith}
use Rattle.pairs.specs.Pairs.{number, corners_of, pair_count}
use Rattle.pairs.proofs.Numbers.{number_below}
use Rattle.triangulations.specs.Moves.{edge, replacement, exchanged}
use Rattle.triangulations.specs.Polygon.{Diagonal, Cross}
use Rattle.triangulations.specs.Textbook.{PairSet, Triangulation}
use Rattle.triangulations.proofs.Drawing.{Small, member_edge, corners_pair, drawing, undrawn}
use Rattle.triangulations.proofs.Drawings.{Drawn, digit_cases}
use Rattle.triangulations.proofs.Edges.{Inner, inner, diagonal_from, diagonal_numbered}
use Rattle.triangulations.proofs.Exchanges.{Is, Changed, redrawn}
use Rattle.triangulations.proofs.Flips.{Flip, flip}
use Rattle.triangulations.proofs.Searches.{some_is}
use Rattle.triangulations.proofs.Swaps.{swap_in, swap_small, swap_only, swap_back, swap_changed}

-- a set of diagonals has nothing past the last pair
pub nothing_past : (n : ℕ) (S : PairSet) → Small S → ((x : ℕ) → S x ≡ 1 → Diagonal n (corners_of x)) → (e : ℕ) → 276 ≤ e → S e ≡ 0
nothing_past n S small only e h = go (digit_cases (S e) (small e))
  where
    go : (S e ≡ 0) ⊎ (S e ≡ 1) → S e ≡ 0
    go (inl z) = z
    go (inr o) = absurd (omega (arith, (diagonal_numbered n e (only e o)).0))

pub record Neighbour (n : ℕ) (S : PairSet) (e k : ℕ) : Type 0 where
  pub triangulation : Triangulation n (exchanged S e k)
  pub small : Small (exchanged S e k)
  pub fresh : S k ≡ 0
  pub below : k < pair_count n
  pub member : exchanged S e k k ≡ 1
  pub back : replacement n (exchanged S e k) k ≡ Some e
  pub undone : exchanged (exchanged S e k) k e ≡ S

module _ (n : ℕ) (S : PairSet) (large : 3 ≤ n) (few : n ≤ 24) (small : Small S) (t : Triangulation n S) (e : ℕ) (m : S e ≡ 1) where
  g : Drawn n (edge n S)
  g = drawing n S large few small t

  d : Diagonal n (corners_of e)
  d = t.only_diagonals e m

  numbered : number (corners_of e).0 (corners_of e).1 ≡ e
  numbered = (diagonal_numbered n e d).1

  pub flip_of : Flip n S e (corners_of e).0 (corners_of e).1
  flip_of = flip n S few g (corners_of e).0 (corners_of e).1 (member_edge n S t.only_diagonals e m) (inner n (corners_of e) d) e refl

  -- the two pairs cross, so the new one is a diagonal that was no member
  module _ (f : Flip n S e (corners_of e).0 (corners_of e).1) where
    new-inner : Inner n f.from f.to
    new-inner = go f.exchange.they_cross
      where
        go : Cross ((corners_of e).0, (corners_of e).1) (f.from, f.to) → Inner n f.from f.to
        go (inl w) =
            record { wide = omega (arith, f.exchange.ascending); within = f.exchange.within; cut = inl (omega arith) }
        go (inr w) =
            record { wide = omega (arith, f.exchange.ascending); within = f.exchange.within; cut = inr (omega (arith, d.1)) }

    pub new_diagonal : Diagonal n (f.from, f.to)
    new_diagonal = diagonal_from n f.from f.to new-inner

    new_apart : Is (corners_of e).0 (corners_of e).1 f.from f.to → ⊥
    new_apart i = go f.exchange.they_cross
      where
        go : Cross ((corners_of e).0, (corners_of e).1) (f.from, f.to) → ⊥
        go (inl w) = omega arith
        go (inr w) = omega arith

    at_new : corners_of (number f.from f.to) ≡ (f.from, f.to)
    at_new = corners_pair n S few f.from f.to new_diagonal.0 new_diagonal.1

    new-fresh : S (number f.from f.to) ≡ 0
    new-fresh = go (digit_cases (S k) (small k))
      where
        k : ℕ
        k = number f.from f.to

        go : (S k ≡ 0) ⊎ (S k ≡ 1) → S k ≡ 0
        go (inl z) = z
        go (inr o) =
            absurd (t.none_cross e k m o (subst (λ (x : ℕ × ℕ). Cross (corners_of e) x) (sym at_new) f.exchange.they_cross))

    pub changed : Changed (edge n S) (edge n (exchanged S e (number f.from f.to))) (corners_of e).0 (corners_of e).1 f.from f.to
    unfolding numbered
    changed =
        subst
        (λ (x : ℕ). Changed (edge n S) (edge n (exchanged S x (number f.from f.to))) (corners_of e).0 (corners_of e).1 f.from f.to)
        numbered (swap_changed n S (corners_of e).0 (corners_of e).1 f.from f.to d new_diagonal new_apart)

    again : Drawn n (edge n (exchanged S e (number f.from f.to)))
    again = redrawn n (edge n S) (edge n (exchanged S e (number f.from f.to))) (corners_of e).0 (corners_of e).1 f.from f.to g f.exchange changed

    pub neighbour_by : Neighbour n S e (number f.from f.to)
    unfolding numbered
    neighbour_by =
        record {
          triangulation = undrawn n T large few (swap_small S e k small) (swap_only S e k n t.only_diagonals there) again;
          small = swap_small S e k small;
          fresh = new-fresh;
          below = number_below f.from f.to n new_diagonal.0 new_diagonal.1;
          member = swap_in S e k (λ h. omega (arith, ap S h, new-fresh));
          back = f.returns T again changed ∙ ap Some numbered;
          undone = swap_back S e k m new-fresh;
        }
      where
        k : ℕ
        k = number f.from f.to

        T : PairSet
        T = exchanged S e k

        there : Diagonal n (corners_of k)
        there = subst (λ (x : ℕ × ℕ). Diagonal n x) (sym at_new) new_diagonal

  pub neighbour : (k : ℕ) → replacement n S e ≡ Some k → Neighbour n S e k
  neighbour k r =
      subst (λ (x : ℕ). Neighbour n S e x) (some_is (replacement n S e) (number flip_of.from flip_of.to) k flip_of.is r) (neighbour_by flip_of)
