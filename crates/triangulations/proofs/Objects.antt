-- Objects are codes of triangulations.
use Rattle.std.proofs.Common.{◌≡◌, ℕ, Bool, true, false, eqb, Some, None, Decides, Option, sym, refl, ap, ◌∙◌, subst, arith}
use Rattle.std.proofs.lemmas.Bool.{both_ways, eqb-true, eq-eqb}
use Rattle.oracle.specs.Setup.{Code, vacant, filled}
use Rattle.triangulations.specs.Census.{slot_to, slot_of, is_object}
use Rattle.triangulations.specs.Codes.{members, code_of, Row, is_row}
use Rattle.triangulations.specs.Moves.{replacement, exchanged}
use Rattle.triangulations.specs.Objects.{is_triangulation}
use Rattle.triangulations.specs.Textbook.{PairSet, Triangulation}
use Rattle.triangulations.proofs.Bytes.{members_small, members_past, members_code, code_row, row_decides}
use Rattle.triangulations.proofs.Deciding.{triangulation_decides}
use Rattle.triangulations.proofs.Drawing.{Small}
use Rattle.triangulations.proofs.Neighbours.{nothing_past}

object_at : (n : ℕ) (v : Code) (b : Bool) → is_row v ≡ b → is_object n v ≡ (elim b [ true ↦ is_triangulation n (members v) | false ↦ false ])
unfolding is_object
object_at n v b h = ap (λ (x : Bool). elim x [ true ↦ is_triangulation n (members v) | false ↦ false ]) h

pub object_in_row : (n : ℕ) (v : Code) → is_row v ≡ true → is_object n v ≡ is_triangulation n (members v)
object_in_row n v h = object_at n v true h

pub object_decides : (n : ℕ) (v : Code) → Decides (is_object n v) (Row v × Triangulation n (members v))
object_decides n v = (λ o. to o (is_row v) refl, λ w. from w.0 w.1)
  where
    tie : Row v → Decides (is_triangulation n (members v)) (Triangulation n (members v))
    tie r = triangulation_decides n (members v) (members_small v) (members_past v r.size)

    to : is_object n v ≡ true → (b : Bool) → is_row v ≡ b → Row v × Triangulation n (members v)
    to o true h = let r = (row_decides v).0 h in (r, (tie r).0 (sym (object_at n v true h) ∙ o))
    to o false h = absurd (both_ways (is_object n v) (object_at n v false h) o)

    from : Row v → Triangulation n (members v) → is_object n v ≡ true
    from r t = object_at n v true ((row_decides v).1 r) ∙ (tie r).1 t

-- the code of a triangulation is an object, and stands for it
pub code_members_are : (n : ℕ) (S : PairSet) → Small S → Triangulation n S → members (code_of S) ≡ S
code_members_are n S small t = members_code S small (λ e h. nothing_past n S small t.only_diagonals e (omega arith))

pub code_object : (n : ℕ) (S : PairSet) → Small S → Triangulation n S → is_object n (code_of S) ≡ true
code_object n S small t =
    (object_decides n (code_of S)).1 (code_row S small, subst (λ (T : PairSet). Triangulation n T) (sym (code_members_are n S small t)) t)

-- ---- slots

slot_at : (n : ℕ) (S : PairSet) (e : ℕ) (b : Bool) → eqb (S e) 1 ≡ b → slot_of n S e ≡ (elim b [ true ↦ slot_to S e (replacement n S e) | false ↦ vacant ])
unfolding slot_of
slot_at n S e b h = ap (λ (x : Bool). elim x [ true ↦ slot_to S e (replacement n S e) | false ↦ vacant ]) h

pub slot_filled : (n : ℕ) (S : PairSet) (e k : ℕ) → S e ≡ 1 → replacement n S e ≡ Some k → slot_of n S e ≡ filled (code_of (exchanged S e k)) k
unfolding slot_to
slot_filled n S e k m r = slot_at n S e true (eq-eqb (S e) 1 m) ∙ ap (slot_to S e) r

pub slot_vacant : (n : ℕ) (S : PairSet) (e : ℕ) → S e ≡ 0 → slot_of n S e ≡ vacant
slot_vacant n S e z = go (eqb (S e) 1) refl
  where
    go : (b : Bool) → eqb (S e) 1 ≡ b → slot_of n S e ≡ vacant
    go true h = absurd (omega (arith, eqb-true (S e) 1 h))
    go false h = slot_at n S e false h

-- what a filled slot says
pub record Filled (n : ℕ) (S : PairSet) (e : ℕ) (w : Code) (k : ℕ) : Type 0 where
  pub member : S e ≡ 1
  pub replaced : replacement n S e ≡ Some k
  pub code : w ≡ code_of (exchanged S e k)

pub filled_is : (n : ℕ) (S : PairSet) (e : ℕ) (w : Code) (k : ℕ) → slot_of n S e ≡ filled w k → Filled n S e w k
unfolding slot_to
filled_is n S e w k f = go (eqb (S e) 1) refl (replacement n S e) refl
  where
    clash : vacant ≡ filled w k → ⊥
    clash x = let z : ◌≡◌ {A = ℕ} 0 1 = cc in omega arith

    same_code : (x y : Code) (i j : ℕ) → filled x i ≡ filled y j → x ≡ y
    same_code x y i j q = cc

    same-slot : (x y : Code) (i j : ℕ) → filled x i ≡ filled y j → i ≡ j
    same-slot x y i j q = cc

    go : (b : Bool) → eqb (S e) 1 ≡ b → (o : Option ℕ) → replacement n S e ≡ o → Filled n S e w k
    go true h None r = absurd (clash (sym (slot_at n S e true h ∙ ap (slot_to S e) r) ∙ f))
    go true h (Some j) r =
        let q = sym (slot_at n S e true h ∙ ap (slot_to S e) r) ∙ f in
        let s = same-slot (code_of (exchanged S e j)) w j k q in
        record {
          member = eqb-true (S e) 1 h;
          replaced = r ∙ ap Some s;
          code = sym (same_code (code_of (exchanged S e j)) w j k q) ∙ ap (λ (x : ℕ). code_of (exchanged S e x)) s;
        }
    go false h None r = absurd (clash (sym (slot_at n S e false h) ∙ f))
    go false h (Some j) r = absurd (clash (sym (slot_at n S e false h) ∙ f))
