-- The rows of a triangulation stand for an object.
use Rattle.std.specs.Prelude.{◌≡◌, ℕ, ◌≤◌, Bool, true, false, cond, List, slice_index, refl}
use Rattle.std.proofs.Common.{arith}
use Rattle.std.proofs.lemmas.Bool.{cond-false}
use Rattle.digits.proofs.Digits.{bit_small}
use Rattle.oracle.specs.Laws.{Object}
use Rattle.pairs.specs.Pairs.{corners_of}
use Rattle.triangulations.proofs.Deciding.{triangulation_decides}
use Rattle.triangulations.proofs.Drawing.{Small}
use Rattle.triangulations.proofs.Edges.{diagonal_numbered}
use Rattle.triangulations.proofs.Objects.{code_object}
use Rattle.triangulations.proofs.Tests.{diagonal_decides}
use Rattle.triangulations.specs.Census.{polygon}
use Rattle.triangulations.specs.Codes.{code_of}
use Rattle.triangulations.specs.Objects.{is_triangulation}
use Rattle.triangulations.specs.Polygon.{is_diagonal}
use Rattle.triangulations.specs.Textbook.{Triangulation}
use Rattle.polygon.specs.Rows.{linked, set_of}

pub set_of_small : (n : ℕ) (rows : List ℕ) → Small (set_of n rows)
unfolding set_of
set_of_small n rows e = go (is_diagonal n (corners_of e))
  where
    go : (b : Bool) → cond b (linked rows (corners_of e).0 (corners_of e).1) 0 ≤ 1
    go true = bit_small (slice_index rows (corners_of e).0) (corners_of e).1
    go false = omega arith

pub set_of_past : (n : ℕ) (rows : List ℕ) (e : ℕ) → 280 ≤ e → set_of n rows e ≡ 0
unfolding set_of
set_of_past n rows e h = go (is_diagonal n (corners_of e)) refl
  where
    go : (b : Bool) → is_diagonal n (corners_of e) ≡ b → cond (is_diagonal n (corners_of e)) (linked rows (corners_of e).0 (corners_of e).1) 0 ≡ 0
    go true k = absurd (omega (arith, (diagonal_numbered n e ((diagonal_decides n (corners_of e)).0 k)).0))
    go false k = cond-false (is_diagonal n (corners_of e)) (linked rows (corners_of e).0 (corners_of e).1) 0 k

pub whole_triangulation : (n : ℕ) (rows : List ℕ) → is_triangulation n (set_of n rows) ≡ true → Triangulation n (set_of n rows)
whole_triangulation n rows w = (triangulation_decides n (set_of n rows) (set_of_small n rows) (set_of_past n rows)).0 w

pub whole_stands : (n : ℕ) (rows : List ℕ) → is_triangulation n (set_of n rows) ≡ true → Object (polygon n) (code_of (set_of n rows))
whole_stands n rows w = code_object n (set_of n rows) (set_of_small n rows) (whole_triangulation n rows w)
