-- The diagonal that replaces a member, and the way back.
use Rattle.std.proofs.Common.{◌≡◌, ℕ, ◌<◌, ◌≤◌, min, max, Some, refl, ap, ◌∙◌, ap₂, inl, inr, arith}
use Rattle.pairs.specs.Pairs.{number, corners_of}
use Rattle.triangulations.specs.Moves.{edge, replacement}
use Rattle.triangulations.specs.Textbook.{PairSet}
use Rattle.triangulations.proofs.Apexes.{replacement_is}
use Rattle.triangulations.proofs.Corners.{Below, Beyond, below, above}
use Rattle.triangulations.proofs.Drawing.{corners_pair}
use Rattle.triangulations.proofs.Drawings.{Drawn}
use Rattle.triangulations.proofs.Edges.{edge_ends, Inner}
use Rattle.triangulations.proofs.Exchanges.{Is, Exchange, Changed}
use Rattle.triangulations.proofs.Quadrilaterals.{Quad, low_out, high_out}

number_min_max : (c d x y : ℕ) → min c d ≡ x → max c d ≡ y → number (min c d) (max c d) ≡ number x y
number_min_max c d x y p q = ap₂ number p q

module _ (n : ℕ) (S : PairSet) (g : Drawn n (edge n S)) (w x y z : ℕ) (q : Quad (edge n S) w x y z) where
  -- each diagonal of a quadrilateral is replaced by the other
  pub low_replaced : (e : ℕ) → corners_of e ≡ (w, y) → edge n S w y ≡ 1 → replacement n S e ≡ Some (number x z)
  low_replaced e at f =
      replacement_is n S g e w y at f x z (q.first, q.second, q.one, q.two) (inr (q.third, q.four, q.three))
      ∙ ap Some (number_min_max x z x z (omega (arith, q.second, q.third)) (omega (arith, q.second, q.third)))

  pub high_replaced : (e : ℕ) → corners_of e ≡ (x, z) → edge n S x z ≡ 1 → replacement n S e ≡ Some (number w y)
  high_replaced e at f =
      replacement_is n S g e x z at f y w (q.second, q.third, q.two, q.three) (inl (q.first, q.one, q.four))
      ∙ ap Some (number_min_max y w w y (omega (arith, q.first, q.second)) (omega (arith, q.first, q.second)))

-- what replaces pair e = (a, b), and that it is replaced by e in turn
pub record Flip (n : ℕ) (S : PairSet) (e a b : ℕ) : Type 0 where
  pub from : ℕ
  pub to : ℕ
  pub is : replacement n S e ≡ Some (number from to)
  pub exchange : Exchange n (edge n S) a b from to
  pub returns : (T : PairSet) → Drawn n (edge n T) → Changed (edge n S) (edge n T) a b from to
      → replacement n T (number from to) ≡ Some (number a b)

module _ (n : ℕ) (S : PairSet) (few : n ≤ 24) (g : Drawn n (edge n S)) (w x y z : ℕ) (q : Quad (edge n S) w x y z) where
  -- the sides of the quadrilateral stay
  same-quad : (T : PairSet) → ((r s : ℕ) → (Is r s w y → ⊥) → (Is r s x z → ⊥) → edge n T r s ≡ edge n S r s) → Quad (edge n T) w x y z
  same-quad T kept =
      record {
        first = q.first;
        second = q.second;
        third = q.third;
        one = kept w x (λ i. omega (arith, q.second)) (λ i. omega (arith, q.first)) ∙ q.one;
        two = kept x y (λ i. omega (arith, q.first)) (λ i. omega (arith, q.third)) ∙ q.two;
        three = kept y z (λ i. omega (arith, q.third)) (λ i. omega (arith, q.second)) ∙ q.three;
        four = kept w z (λ i. omega (arith, q.third)) (λ i. omega (arith, q.first)) ∙ q.four;
      }

  last : z < n
  last = (edge_ends n S w z q.four).1

  pub flip_low : (e : ℕ) → corners_of e ≡ (w, y) → edge n S w y ≡ 1 → Flip n S e w y
  flip_low e at f =
      record {
        from = x;
        to = z;
        is = low_replaced n S g w x y z q e at f;
        exchange = low_out n (edge n S) w x y z g q f;
        returns = λ T h c.
            high_replaced n T h w x y z (same-quad T c.kept) (number x z)
            (corners_pair n S few x z (omega (arith, q.second, q.third)) last) c.come;
      }

  pub flip_high : (e : ℕ) → corners_of e ≡ (x, z) → edge n S x z ≡ 1 → Flip n S e x z
  flip_high e at f =
      record {
        from = w;
        to = y;
        is = high_replaced n S g w x y z q e at f;
        exchange = high_out n (edge n S) w x y z g q f;
        returns = λ T h c.
            low_replaced n T h w x y z (same-quad T (λ r s i j. c.kept r s j i)) (number w y)
            (corners_pair n S few w y (omega (arith, q.first, q.second)) (omega (arith, q.third, last))) c.come;
      }

module _ (n : ℕ) (S : PairSet) (few : n ≤ 24) (g : Drawn n (edge n S)) (a b : ℕ) (f : edge n S a b ≡ 1) (i : Inner n a b) where
  under : Below (edge n S) a b
  under = below n (edge n S) g a b f i.wide

  -- with an outer corner given, on either side
  quad-down : (d : ℕ) → (d < a) × (edge n S d a ≡ 1) × (edge n S d b ≡ 1) → Quad (edge n S) d a under.corner b
  quad-down d v =
      record { first = v.0; second = under.left; third = under.right; one = v.1; two = under.from; three = under.to; four = v.2 }

  quad-up : (d : ℕ) → (b < d) × (edge n S a d ≡ 1) × (edge n S b d ≡ 1) → Quad (edge n S) a under.corner b d
  quad-up d v =
      record { first = under.left; second = under.right; third = v.0; one = under.from; two = under.to; three = v.2; four = v.1 }

  -- an edge (a, b) with both corners joined to a lower corner d gives way to an edge from d
  pub flip_to : (e d : ℕ) → corners_of e ≡ (a, b) → (d < a) × (edge n S d a ≡ 1) × (edge n S d b ≡ 1)
      → Flip n S e a b
  flip_to e d at v = flip_high n S few g d a under.corner b (quad-down d v) e at f

  pub flip_to_from : (e d : ℕ) (at : corners_of e ≡ (a, b)) (v : (d < a) × (edge n S d a ≡ 1) × (edge n S d b ≡ 1))
      → (flip_to e d at v).from ≡ d
  unfolding flip_to flip_high
  flip_to_from e d at v = refl

  pub flip : (e : ℕ) → corners_of e ≡ (a, b) → Flip n S e a b
  flip e at = go (above n (edge n S) g a b f i.cut)
    where
      go : (d : ℕ) × Beyond (edge n S) a b d → Flip n S e a b
      go (d, inl v) = flip_to e d at v
      go (d, inr v) = flip_low n S few g a under.corner b d (quad-up d v) e at f
