-- What a polygon's own facts come to.
use Rattle.std.proofs.Common.{◌≡◌, ℕ, Bool, true, false, eqb, sym, ◌∙◌, arith}
use Rattle.std.proofs.lemmas.Bool.{eqb-true, eqb-false}
use Rattle.triangulations.proofs.Objects.{code_members_are}
use Rattle.triangulations.specs.Codes.{members, code_of}
use Rattle.triangulations.specs.Textbook.{PairSet}
use Rattle.polygon.specs.Laws.{set_of_small, whole_triangulation}
use Rattle.polygon.specs.Rows.{set_of}
use Rattle.polygon.specs.declared.subject.Polygon.{Polygon}
use Rattle.polygon.proofs.Ties.{Kept}

abbrev pub current_set : Polygon → PairSet
current_set p = set_of p.outline.n p.rows.0

module _ (p : Polygon) where
  pub kept : Kept p.outline.n (current_set p) p.rows.0
  kept =
      record {
        large = p.outline.large;
        few = p.outline.few;
        small = set_of_small p.outline.n p.rows.0;
        triangulation = whole_triangulation p.outline.n p.rows.0 p.whole;
        tied = p.tied;
      }

  -- the current code stands for the current set
  pub same_set : members (code_of (current_set p)) ≡ current_set p
  same_set = code_members_are p.outline.n (current_set p) kept.small kept.triangulation

  -- what a test of a member says
  module _ (e : ℕ) (r : Bool) (told : r ≡ eqb (current_set p e) 1) where
    pub is_member : r ≡ true → current_set p e ≡ 1
    is_member t = eqb-true (current_set p e) 1 (sym told ∙ t)

    pub no_member : r ≡ false → current_set p e ≡ 0
    no_member t = omega (arith, set_of_small p.outline.n p.rows.0 e, eqb-false (current_set p e) 1 (sym told ∙ t))
