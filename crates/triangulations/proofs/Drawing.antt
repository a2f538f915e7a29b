-- A triangulation and its drawing.
use Rattle.std.proofs.Common.{◌≡◌, ℕ, ◌+◌, ◌-◌, ◌<◌, ◌≤◌, Bool, ◌&&◌, eqb, ◌⊎◌, sym, refl, ap, ◌∙◌, subst, inl, inr, arith}
use Rattle.std.proofs.lemmas.Bool.{and_parts, and_from, eqb-true, eq-eqb, both_ways}
use Rattle.pairs.specs.Pairs.{number, corners_of, pair_count}
use Rattle.pairs.proofs.Numbers.{corners_number, number_below}
use Rattle.triangulations.specs.Moves.{edge}
use Rattle.triangulations.specs.Polygon.{Diagonal, Cross, crosses}
use Rattle.triangulations.specs.Textbook.{PairSet, Triangulation}
use Rattle.triangulations.proofs.Searches.{Found, Nowhere, least_cases}
use Rattle.triangulations.proofs.Tests.{crosses_decides}
use Rattle.triangulations.proofs.Edges.{diagonal_from, diagonal_numbered, Kind, kind, a_side, a_diagonal, no_pair, edge_side, edge_member, edge_ends, edge_small}
use Rattle.triangulations.proofs.Drawings.{Crossed, Drawn, digit_cases}

-- each value of a set is 0 or 1
abbrev pub Small : PairSet → Type 0
Small S = (e : ℕ) → S e ≤ 1

module _ (n : ℕ) (S : PairSet) (only : (e : ℕ) → S e ≡ 1 → Diagonal n (corners_of e)) where
  -- a member is an edge
  pub member_edge : (e : ℕ) → S e ≡ 1 → edge n S (corners_of e).0 (corners_of e).1 ≡ 1
  member_edge e h =
      edge_member n S (corners_of e).0 (corners_of e).1 (only e h) ∙ ap S (diagonal_numbered n e (only e h)).1 ∙ h

module _ (n : ℕ) (S : PairSet) (few : n ≤ 24) (a b : ℕ) where
  pub corners_pair : a < b → b < n → corners_of (number a b) ≡ (a, b)
  corners_pair h l = corners_number a b h (omega arith)

  -- an edge that crosses some pair is a member
  crossing-member : edge n S a b ≡ 1 → a + 1 < b → (0 < a) ⊎ (b < n - 1) → S (number a b) ≡ 1
  crossing-member e w c =
      sym (edge_member n S a b (diagonal_from n a b (record { wide = w; within = (edge_ends n S a b e).1; cut = c }))) ∙ e

module _ (n : ℕ) (S : PairSet) (large : 3 ≤ n) (few : n ≤ 24) (small : Small S) where
  -- ---- from the triangulation to the drawing

  module _ (t : Triangulation n S) where
    members-apart : (a b c d : ℕ) → a < b → b < n → c < d → d < n → S (number a b) ≡ 1 → S (number c d) ≡ 1 → Cross (a, b) (c, d) → ⊥
    members-apart a b c d h i k l e f x =
        t.none_cross (number a b) (number c d) e f
        (subst (λ (p : ℕ × ℕ). Cross p (corners_of (number c d))) (sym (corners_pair n S few a b h i))
        (subst (λ (q : ℕ × ℕ). Cross (a, b) q) (sym (corners_pair n S few c d k l)) x))

    drawn-plane : (a b c d : ℕ) → edge n S a b ≡ 1 → edge n S c d ≡ 1 → a < c → c < b → b < d → ⊥
    drawn-plane a b c d e f h i k =
        let p = edge_ends n S a b e in
        let q = edge_ends n S c d f in
        members-apart a b c d p.0 p.1 q.0 q.1
        (crossing-member n S few a b e (omega arith) (inr (omega arith)))
        (crossing-member n S few c d f (omega arith) (inl (omega arith)))
        (inl (h, i, k))

    -- whether member f crosses the pair
    crossing : ℕ → ℕ → ℕ → Bool
    crossing a b f = eqb (S f) 1 && crosses (a, b) (corners_of f)

    drawn-full : (a b : ℕ) → a < b → b < n → edge n S a b ≡ 0 → Crossed (edge n S) a b
    unfolding crossing
    drawn-full a b h i z = go (kind n a b)
      where
        found : Found (pair_count n) (crossing a b) → Crossed (edge n S) a b
        found f =
            let both = and_parts (eqb (S f.place) 1) (crosses (a, b) (corners_of f.place)) f.passes in
            record {
              from = (corners_of f.place).0;
              to = (corners_of f.place).1;
              edge = member_edge n S t.only_diagonals f.place (eqb-true (S f.place) 1 both.0);
              how = (crosses_decides (a, b) (corners_of f.place)).0 both.1;
            }

        below : (f : ℕ) → S f ≡ 1 → f < pair_count n
        below f e =
            let d = t.only_diagonals f e in
            let m = diagonal_numbered n f d in
            omega (arith, number_below (corners_of f).0 (corners_of f).1 n d.0 d.1)

        free : Diagonal n (a, b) → Nowhere (pair_count n) (crossing a b) → S (number a b) ≡ 1
        free d w =
            let same = corners_pair n S few a b h i in
            t.none_missing (number a b) (subst (λ (p : ℕ × ℕ). Diagonal n p) (sym same) d)
            (λ f e x.
            both_ways (crossing a b f) (w.none f (below f e))
            (and_from (eqb (S f) 1) (crosses (a, b) (corners_of f)) (eq-eqb (S f) 1 e)
            ((crosses_decides (a, b) (corners_of f)).1 (subst (λ (p : ℕ × ℕ). Cross p (corners_of f)) same x))))

        search-all : Diagonal n (a, b) → Found (pair_count n) (crossing a b) ⊎ Nowhere (pair_count n) (crossing a b) → Crossed (edge n S) a b
        search-all d (inl f) = found f
        search-all d (inr w) = absurd (omega (arith, edge_member n S a b d, free d w))

        go : Kind n a b → Crossed (edge n S) a b
        go (a_side p q s) = absurd (omega (arith, edge_side n S a b p q s))
        go (a_diagonal d) = search-all d (least_cases (pair_count n) (crossing a b))
        go (no_pair p) = absurd (p h i)

    pub drawing : Drawn n (edge n S)
    drawing =
        record {
          large = large;
          digit = λ a b. edge_small n S a b small;
          ends = λ a b e. edge_ends n S a b e;
          short = λ a h. edge_side n S a (a + 1) (omega arith) h (inl refl);
          long = edge_side n S 0 (n - 1) (omega arith) (omega arith) (inr (refl, refl));
          plane = drawn-plane;
          full = drawn-full;
        }

  -- ---- and back

  pub undrawn : ((e : ℕ) → S e ≡ 1 → Diagonal n (corners_of e)) → Drawn n (edge n S) → Triangulation n S
  undrawn only g = record { only_diagonals = only; none_cross = apart; none_missing = missing }
    where
      apart : (e f : ℕ) → S e ≡ 1 → S f ≡ 1 → Cross (corners_of e) (corners_of f) → ⊥
      apart e f p q (inl x) = g.plane _ _ _ _ (member_edge n S only e p) (member_edge n S only f q) x.0 x.1 x.2
      apart e f p q (inr x) = g.plane _ _ _ _ (member_edge n S only f q) (member_edge n S only e p) x.0 x.1 x.2

      missing : (e : ℕ) → Diagonal n (corners_of e) → ((f : ℕ) → S f ≡ 1 → Cross (corners_of e) (corners_of f) → ⊥) → S e ≡ 1
      missing e d free = go (digit_cases (edge n S a b) (edge_small n S a b small))
        where
          a : ℕ
          a = (corners_of e).0

          b : ℕ
          b = (corners_of e).1

          crossed : Crossed (edge n S) a b → ⊥
          crossed x = hit x.how
            where
              c : ℕ
              c = x.from

              d' : ℕ
              d' = x.to

              within : (c < d') × (d' < n)
              within = edge_ends n S c d' x.edge

              clash : S (number c d') ≡ 1 → ⊥
              clash m = free (number c d') m (subst (λ (p : ℕ × ℕ). Cross (corners_of e) p) (sym (corners_pair n S few c d' within.0 within.1)) x.how)

              hit : Cross (a, b) (c, d') → ⊥
              hit (inl w) = clash (crossing-member n S few c d' x.edge (omega arith) (inl (omega arith)))
              hit (inr w) = clash (crossing-member n S few c d' x.edge (omega arith) (inr (omega (arith, d.1))))

          go : (edge n S a b ≡ 0) ⊎ (edge n S a b ≡ 1) → S e ≡ 1
          go (inl z) = absurd (crossed (g.full a b d.0 d.1 z))
          go (inr o) = ap S (sym (diagonal_numbered n e d).1) ∙ sym (edge_member n S a b d) ∙ o
