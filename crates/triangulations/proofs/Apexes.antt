-- The corners that the searches on the two sides of a pair find.
use Rattle.std.proofs.Common.{◌≡◌, ℕ, ◌<◌, min, max, ◌&&◌, eqb, ltb, ◌⊎◌, Some, Decides, Option, sym, ap, ◌∙◌, inl, inr, arith}
use Rattle.std.proofs.lemmas.Bool.Decides.{Decides-eqb, Decides-ltb, Decides-and, Decides-or, Decides-like}
use Rattle.pairs.specs.Pairs.{number, corners_of}
use Rattle.triangulations.specs.Moves.{edge, joined, triangle, between, beyond, inside, outside, pair_of, replacement}
use Rattle.triangulations.specs.Textbook.{PairSet}
use Rattle.triangulations.proofs.Corners.{Beyond, below_once, above_once}
use Rattle.triangulations.proofs.Drawings.{Drawn}
use Rattle.triangulations.proofs.Edges.{joined_up, joined_down, edge_ends}
use Rattle.triangulations.proofs.Searches.{least_only}

abbrev pub Within : (ℕ → ℕ → ℕ) → ℕ → ℕ → ℕ → Type 0
Within E a b c = (a < c) × (c < b) × (E a c ≡ 1) × (E c b ≡ 1)

module _ (n : ℕ) (S : PairSet) (p : ℕ × ℕ) (up : p.0 < p.1) (c : ℕ) where
  triangle-decides : Decides (triangle n S p c) ((joined n S p.0 c ≡ 1) × (joined n S p.1 c ≡ 1))
  unfolding triangle
  triangle-decides =
      Decides-and (eqb (joined n S p.0 c) 1) (eqb (joined n S p.1 c) 1) (Decides-eqb (joined n S p.0 c) 1)
      (Decides-eqb (joined n S p.1 c) 1)

  between-decides : Decides (between p c) ((p.0 < c) × (c < p.1))
  unfolding between
  between-decides = Decides-and (ltb p.0 c) (ltb c p.1) (Decides-ltb p.0 c) (Decides-ltb c p.1)

  beyond-decides : Decides (beyond p c) ((c < p.0) ⊎ (p.1 < c))
  unfolding beyond
  beyond-decides = Decides-or (ltb c p.0) (ltb p.1 c) (Decides-ltb c p.0) (Decides-ltb p.1 c)

  pub within_decides : Decides (between p c && triangle n S p c) (Within (edge n S) p.0 p.1 c)
  within_decides =
      Decides-like (between p c && triangle n S p c) to from
      (Decides-and (between p c) (triangle n S p c) between-decides triangle-decides)
    where
      to : ((p.0 < c) × (c < p.1)) × ((joined n S p.0 c ≡ 1) × (joined n S p.1 c ≡ 1)) → Within (edge n S) p.0 p.1 c
      to w =
          (w.0.0, w.0.1, sym (joined_up n S p.0 c w.0.0) ∙ w.1.0, sym (joined_down n S p.1 c w.0.1) ∙ w.1.1)

      from : Within (edge n S) p.0 p.1 c → ((p.0 < c) × (c < p.1)) × ((joined n S p.0 c ≡ 1) × (joined n S p.1 c ≡ 1))
      from w = ((w.0, w.1), (joined_up n S p.0 c w.0 ∙ w.2, joined_down n S p.1 c w.1 ∙ w.3))

  pub beyond_side_decides : Decides (beyond p c && triangle n S p c) (Beyond (edge n S) p.0 p.1 c)
  beyond_side_decides =
      Decides-like (beyond p c && triangle n S p c) (λ w. to w.0 w.1) from
      (Decides-and (beyond p c) (triangle n S p c) beyond-decides triangle-decides)
    where
      to : (c < p.0) ⊎ (p.1 < c) → (joined n S p.0 c ≡ 1) × (joined n S p.1 c ≡ 1) → Beyond (edge n S) p.0 p.1 c
      to (inl h) w =
          inl (h, sym (joined_down n S p.0 c h) ∙ w.0, sym (joined_down n S p.1 c (omega arith)) ∙ w.1)
      to (inr h) w =
          inr (h, sym (joined_up n S p.0 c (omega arith)) ∙ w.0, sym (joined_up n S p.1 c h) ∙ w.1)

      from : Beyond (edge n S) p.0 p.1 c → ((c < p.0) ⊎ (p.1 < c)) × ((joined n S p.0 c ≡ 1) × (joined n S p.1 c ≡ 1))
      from (inl w) = (inl w.0, (joined_down n S p.0 c w.0 ∙ w.1, joined_down n S p.1 c (omega arith) ∙ w.2))
      from (inr w) = (inr w.0, (joined_up n S p.0 c (omega arith) ∙ w.1, joined_up n S p.1 c w.0 ∙ w.2))

-- ---- in a drawing

module _ (n : ℕ) (S : PairSet) (g : Drawn n (edge n S)) (p : ℕ × ℕ) (e : edge n S p.0 p.1 ≡ 1) where
  up : p.0 < p.1
  up = (edge_ends n S p.0 p.1 e).0

  pub inside_only : (c d : ℕ) → Within (edge n S) p.0 p.1 c → Within (edge n S) p.0 p.1 d → c ≡ d
  inside_only c d w v = below_once n (edge n S) g p.0 p.1 c d w.0 w.1 w.2 w.3 v.0 v.1 v.2 v.3

  pub outside_only : (c d : ℕ) → Beyond (edge n S) p.0 p.1 c → Beyond (edge n S) p.0 p.1 d → c ≡ d
  outside_only c d w v = above_once n (edge n S) g p.0 p.1 c d e w v

  pub beyond_corner : (c : ℕ) → Beyond (edge n S) p.0 p.1 c → c < n
  beyond_corner c (inl w) = omega (arith, edge_ends n S p.0 p.1 e)
  beyond_corner c (inr w) = (edge_ends n S p.0 c w.1).1

  pub inside_is : (c : ℕ) → Within (edge n S) p.0 p.1 c → inside n S p ≡ Some c
  unfolding inside
  inside_is c w =
      least_only n (λ x. between p x && triangle n S p x) c (omega (arith, w.1, edge_ends n S p.0 p.1 e))
      ((within_decides n S p up c).1 w) (λ d l t. inside_only d c ((within_decides n S p up d).0 t) w)

  pub outside_is : (c : ℕ) → Beyond (edge n S) p.0 p.1 c → outside n S p ≡ Some c
  unfolding outside
  outside_is c w =
      least_only n (λ x. beyond p x && triangle n S p x) c (beyond_corner c w) ((beyond_side_decides n S p up c).1 w)
      (λ d l t. outside_only d c ((beyond_side_decides n S p up d).0 t) w)

module _ (n : ℕ) (S : PairSet) (g : Drawn n (edge n S)) (e : ℕ) (a b : ℕ) (at : corners_of e ≡ (a, b)) (f : edge n S a b ≡ 1) where
  pub replacement_is : (c d : ℕ) → Within (edge n S) a b c → Beyond (edge n S) a b d → replacement n S e ≡ Some (number (min c d) (max c d))
  unfolding replacement pair_of
  replacement_is c d w v =
      ap (λ (q : ℕ × ℕ). pair_of (inside n S q) (outside n S q)) at
      ∙ ap (λ (o : Option ℕ). pair_of o (outside n S (a, b))) (inside_is n S g (a, b) f c w)
      ∙ ap (λ (o : Option ℕ). pair_of (Some c) o) (outside_is n S g (a, b) f d v)
