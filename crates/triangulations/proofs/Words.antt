-- The definitions in the words of the textbook.
use Rattle.std.proofs.Common.{◌≡◌, ℕ, ◌+◌, ◌-◌, ◌*◌, ◌/◌, ◌≤◌, ◌⊎◌, sym, refl, ap, ◌∙◌, inl, inr}
use Rattle.pairs.specs.Pairs.{pair_count, number, corners_of}
use Rattle.triangulations.specs.Moves.{edge}
use Rattle.triangulations.specs.Polygon.{Side, Diagonal}
use Rattle.triangulations.specs.Textbook.{PairSet, PairOf, SideOrMember, CornerInside, CornerOutside}
use Rattle.triangulations.proofs.Apexes.{Within}
use Rattle.triangulations.proofs.Corners.{Beyond}
use Rattle.triangulations.proofs.Drawing.{corners_pair}
use Rattle.triangulations.proofs.Edges.{Kind, kind, a_side, a_diagonal, no_pair, edge_side, edge_member, edge_ends, diagonal_numbered}

pub number_is : (a b : ℕ) → number a b ≡ b * (b - 1) / 2 + a
unfolding number pair_count
number_is a b = refl

pub pair_at : (n e : ℕ) → Diagonal n (corners_of e) → PairOf n e (corners_of e).0 (corners_of e).1
pair_at n e d = (d.0, d.1, sym (diagonal_numbered n e d).1 ∙ number_is (corners_of e).0 (corners_of e).1)

pub corners_at : (n : ℕ) (S : PairSet) (e a b : ℕ) → n ≤ 24 → PairOf n e a b → corners_of e ≡ (a, b)
corners_at n S e a b few p = ap corners_of (p.2 ∙ sym (number_is a b)) ∙ corners_pair n S few a b p.0 p.1

module _ (n : ℕ) (S : PairSet) where
  pub edge_from : (a b : ℕ) → SideOrMember n S a b → edge n S a b ≡ 1
  edge_from a b w = go (kind n a b) w.2
    where
      go : Kind n a b → Side n (a, b) ⊎ (S (b * (b - 1) / 2 + a) ≡ 1) → edge n S a b ≡ 1
      go (a_side h l s) x = edge_side n S a b h l s
      go (a_diagonal d) (inl s) = absurd (d.2 s)
      go (a_diagonal d) (inr m) = edge_member n S a b d ∙ ap S (number_is a b) ∙ m
      go (no_pair h) x = absurd (h w.0 w.1)

  pub side_or_member : (a b : ℕ) → edge n S a b ≡ 1 → SideOrMember n S a b
  side_or_member a b e = go (kind n a b)
    where
      go : Kind n a b → SideOrMember n S a b
      go (a_side h l s) = (h, l, inl s)
      go (a_diagonal d) = (d.0, d.1, inr (ap S (sym (number_is a b)) ∙ sym (edge_member n S a b d) ∙ e))
      go (no_pair h) = absurd (h (edge_ends n S a b e).0 (edge_ends n S a b e).1)

  module _ (a b c : ℕ) where
    pub inside_from : CornerInside n S a b c → Within (edge n S) a b c
    inside_from w = (w.0.0, w.1.0, edge_from a c w.0, edge_from c b w.1)

    pub inside_to : Within (edge n S) a b c → CornerInside n S a b c
    inside_to w = (side_or_member a c w.2, side_or_member c b w.3)

    pub outside_from : CornerOutside n S a b c → Beyond (edge n S) a b c
    outside_from (inl w) = inl (w.0.0, edge_from c a w.0, edge_from c b w.1)
    outside_from (inr w) = inr (w.1.0, edge_from a c w.0, edge_from b c w.1)

    pub outside_to : Beyond (edge n S) a b c → CornerOutside n S a b c
    outside_to (inl w) = inl (side_or_member c a w.1, side_or_member c b w.2)
    outside_to (inr w) = inr (side_or_member a c w.1, side_or_member b c w.2)
