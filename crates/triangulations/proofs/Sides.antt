-- What is proved of the set-up, in the words of the textbook.
use Rattle.std.proofs.Common.{◌≡◌, ℕ, ◌≤◌, min, max, Some, sym, refl, ap, ◌∙◌, subst, inl, inr, arith}
use Rattle.digits.specs.Bits.{bit}
use Rattle.pairs.specs.Pairs.{pair_count, number, corners_of}
use Rattle.oracle.specs.Laws.{Object}
use Rattle.oracle.specs.Setup.{Code}
use Rattle.triangulations.specs.Census.{polygon}
use Rattle.triangulations.specs.Codes.{members, code_of}
use Rattle.triangulations.specs.Moves.{edge, replacement, exchanged, fan}
use Rattle.triangulations.specs.Polygon.{Diagonal}
use Rattle.triangulations.specs.Statements.{TwoTriangles, Replaced, Stands}
use Rattle.triangulations.specs.Textbook.{PairSet, Triangulation, PairOf, CornerInside, CornerOutside}
use Rattle.triangulations.proofs.Apexes.{Within, inside_only, outside_only, replacement_is}
use Rattle.triangulations.proofs.Bytes.{members_small}
use Rattle.triangulations.proofs.Corners.{Below, Beyond, below, above}
use Rattle.triangulations.proofs.Counted.{rank_counts}
use Rattle.triangulations.proofs.Drawing.{Small, member_edge, drawing}
use Rattle.triangulations.proofs.Drawings.{Drawn}
use Rattle.triangulations.proofs.Edges.{Inner, inner}
use Rattle.triangulations.proofs.Fans.{fan_spoke, fan_in}
use Rattle.triangulations.proofs.Homes.{home_smallest}
use Rattle.triangulations.proofs.Laws.{polygon_lawful, root_members}
use Rattle.triangulations.proofs.Neighbours.{Neighbour, neighbour}
use Rattle.triangulations.proofs.Objects.{object_decides, code_members_are, slot_filled, slot_vacant}
use Rattle.triangulations.proofs.Swaps.{swap_out, swap_other}
use Rattle.triangulations.proofs.Words.{number_is, pair_at, corners_at, inside_from, inside_to, outside_from, outside_to}

module _ (n : ℕ) (S : PairSet) (large : 3 ≤ n) (few : n ≤ 24) (small : Small S) (t : Triangulation n S) where
  g : Drawn n (edge n S)
  g = drawing n S large few small t

  pub two_triangles : (e : ℕ) → S e ≡ 1 → TwoTriangles n S e
  two_triangles e m =
      record {
        a = p.0;
        b = p.1;
        pair = pair_at n e (t.only_diagonals e m);
        on_one_side =
            record {
              the_one = under.corner;
              has_it = inside_to n S p.0 p.1 under.corner w;
              only = λ c x. inside_only n S g p f c under.corner (inside_from n S p.0 p.1 c x) w;
            };
        on_the_other =
            record {
              the_one = over.0;
              has_it = outside_to n S p.0 p.1 over.0 over.1;
              only = λ c x. outside_only n S g p f c over.0 (outside_from n S p.0 p.1 c x) over.1;
            };
      }
    where
      p : ℕ × ℕ
      p = corners_of e

      f : edge n S p.0 p.1 ≡ 1
      f = member_edge n S t.only_diagonals e m

      i : Inner n p.0 p.1
      i = inner n p (t.only_diagonals e m)

      under : Below (edge n S) p.0 p.1
      under = below n (edge n S) g p.0 p.1 f i.wide

      w : Within (edge n S) p.0 p.1 under.corner
      w = (under.left, under.right, under.from, under.to)

      over : (c : ℕ) × Beyond (edge n S) p.0 p.1 c
      over = above n (edge n S) g p.0 p.1 f i.cut

  -- the diagonal between two corners, one on each side
  module _ (e : ℕ) (m : S e ≡ 1) (a b c d : ℕ) (p : PairOf n e a b) (x : CornerInside n S a b c) (y : CornerOutside n S a b d) where
    pub new : ℕ
    new = number (min c d) (max c d)

    at : corners_of e ≡ (a, b)
    at = corners_at n S e a b few p

    pub replaced : replacement n S e ≡ Some new
    unfolding new
    replaced =
        replacement_is n S g e a b at (subst (λ (q : ℕ × ℕ). edge n S q.0 q.1 ≡ 1) at (member_edge n S t.only_diagonals e m)) c d
        (inside_from n S a b c x) (outside_from n S a b d y)

    pub near : Neighbour n S e new
    near = neighbour n S large few small t e m new replaced

    pub between : PairOf n new (min c d) (max c d)
    unfolding new
    between = go y
      where
        go : CornerOutside n S a b d → PairOf n new (min c d) (max c d)
        go (inl w) = (omega (arith, x.0.0, x.1.0, w.0.0), omega (arith, x.1.1, x.0.0, x.1.0, w.0.0), number_is (min c d) (max c d))
        go (inr w) = (omega (arith, x.0.0, x.1.0, w.1.0), omega (arith, x.1.1, w.1.1), number_is (min c d) (max c d))

    pub kept_set : members (code_of (exchanged S e new)) ≡ exchanged S e new
    kept_set = code_members_are n (exchanged S e new) near.small near.triangulation

module _ (n : ℕ) (large : 3 ≤ n) (few : n ≤ 24) where
  fan-told : (e : ℕ) → (fan n e ≡ 1 → (b : ℕ) × Diagonal n (0, b) × PairOf n e 0 b) × ((b : ℕ) × Diagonal n (0, b) × PairOf n e 0 b → fan n e ≡ 1)
  fan-told e = (to, from)
    where
      to : fan n e ≡ 1 → (b : ℕ) × Diagonal n (0, b) × PairOf n e 0 b
      to m =
          let s = fan_spoke n e m in (
            (corners_of e).1,
            subst (λ (x : ℕ). Diagonal n (x, (corners_of e).1)) s.1 s.0,
            subst (λ (x : ℕ). PairOf n e x (corners_of e).1) s.1 (pair_at n e s.0),
          )

      from : (b : ℕ) × Diagonal n (0, b) × PairOf n e 0 b → fan n e ≡ 1
      from w =
          let at = corners_at n (fan n) e 0 w.0 few w.2 in
          fan_in n e (subst (λ (p : ℕ × ℕ). Diagonal n p) (sym at) w.1, ap (λ (p : ℕ × ℕ). p.0) at)

  pub stands : Stands n (polygon n)
  unfolding members bit pair_count
  stands =
      record {
        lawful = polygon_lawful n large few;
        width = refl;
        size = refl;
        height = refl;
        objects = object_decides n;
        root = λ e.
            let same = ap (λ (T : PairSet). T e) (root_members n large few) in
            ((λ m. (fan-told e).0 (sym same ∙ m)), λ w. same ∙ (fan-told e).1 w);
        triangles = λ v o e m. two_triangles n (members v) large few (members_small v) (tri v o) e m;
        slots = λ v o e m a b c d p x y. held v o e m a b c d p x y;
        vacancies = λ v o e z. slot_vacant n (members v) e (omega (arith, members_small v e));
        home = λ v o. home_smallest n (members v) large few (members_small v) (tri v o);
        rank = λ v o. rank_counts n (members v) few (members_small v) (tri v o);
      }
    where
      tri : (v : Code) → Object (polygon n) v → Triangulation n (members v)
      tri v o = ((object_decides n v).0 o).1

      held : (v : Code) → Object (polygon n) v → (e : ℕ) → members v e ≡ 1 → (a b c d : ℕ) → PairOf n e a b
          → CornerInside n (members v) a b c → CornerOutside n (members v) a b d → Replaced n (polygon n) v e c d
      held v o e m a b c d p x y =
          let S = members v in
          let w = members_small v in
          let k = new n S large few w (tri v o) e m a b c d p x y in
          let same = kept_set n S large few w (tri v o) e m a b c d p x y in
          let f = near n S large few w (tri v o) e m a b c d p x y in
          record {
            neighbour = code_of (exchanged S e k);
            diagonal = k;
            between = between n S large few w (tri v o) e m a b c d p x y;
            slot = slot_filled n S e k m (replaced n S large few w (tri v o) e m a b c d p x y);
            taken_out = ap (λ (T : PairSet). T e) same ∙ swap_out S e k;
            put_in = ap (λ (T : PairSet). T k) same ∙ f.member;
            kept = λ z h l. ap (λ (T : PairSet). T z) same ∙ swap_other S e k z h l;
          }
