-- Sets that agree on the diagonals have the same rows.
use Rattle.std.proofs.Common.{◌≡◌, ℕ, ◌≤◌, List, sym, ◌∙◌, subst, arith}
use Rattle.pairs.specs.Pairs.{number, corners_of}
use Rattle.triangulations.proofs.Drawing.{corners_pair}
use Rattle.triangulations.proofs.Edges.{Kind, kind, a_side, a_diagonal, no_pair, edge_side, edge_member, edge_none}
use Rattle.triangulations.specs.Moves.{edge, joined}
use Rattle.triangulations.specs.Polygon.{Diagonal}
use Rattle.triangulations.specs.Textbook.{PairSet}
use Rattle.polygon.specs.Rows.{Tied}

abbrev pub Agree : ℕ → PairSet → PairSet → Type 0
Agree n S T = (e : ℕ) → Diagonal n (corners_of e) → S e ≡ T e

module _ (n : ℕ) (S T : PairSet) (few : n ≤ 24) (agree : Agree n S T) where
  edge_same : (a b : ℕ) → edge n S a b ≡ edge n T a b
  edge_same a b = go (kind n a b)
    where
      go : Kind n a b → edge n S a b ≡ edge n T a b
      go (a_side h l s) = edge_side n S a b h l s ∙ sym (edge_side n T a b h l s)
      go (no_pair h) = edge_none n S a b h ∙ sym (edge_none n T a b h)
      go (a_diagonal d) =
          edge_member n S a b d
          ∙ agree (number a b) (subst (λ (p : ℕ × ℕ). Diagonal n p) (sym (corners_pair n S few a b d.0 d.1)) d)
          ∙ sym (edge_member n T a b d)

  joined_same : (a b : ℕ) → joined n S a b ≡ joined n T a b
  unfolding joined
  joined_same a b = omega (arith, edge_same a b, edge_same b a)

  pub tied_same : (rows : List ℕ) → Tied n S rows → Tied n T rows
  tied_same rows tie a b = tie a b ∙ joined_same a b

pub joined_past : (n : ℕ) (S : PairSet) (a b : ℕ) → n ≤ a → joined n S a b ≡ 0
unfolding joined
joined_past n S a b h = omega (arith, edge_none n S a b (λ x y. omega arith), edge_none n S b a (λ x y. omega arith))
