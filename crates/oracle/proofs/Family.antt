-- Parents and children, and the two inductions over a lawful set-up: down over the children, and up
-- over the parents.
use Rattle.std.proofs.Common.{◌≡◌, ℕ, zero, suc, ◌+◌, ◌<◌, ◌≤◌, Bool, true, false, cond, Some, None, Option, sym, refl, ap, ◌∙◌, subst, inl, inr, arith}
use Rattle.std.proofs.lemmas.Bool.{eqb-true, eq-eqb, both_ways}
use Rattle.oracle.proofs.Codes.{SameCases, same_cases}
use Rattle.oracle.specs.Home.{homeward}
use Rattle.oracle.specs.Laws.{Object, Lawful}
use Rattle.oracle.specs.Setup.{Code, Setup, Slot, vacant, filled}
use Rattle.oracle.specs.Sight.{nothing, other, child, is_home, sight_of, seen}

pub is_home_true : (o : Option ℕ) (k : ℕ) → is_home o k ≡ true → o ≡ Some k
is_home_true None k e = absurd (both_ways false refl e)
is_home_true (Some h) k e = ap Some (eqb-true h k e)

pub is_home_some : (o : Option ℕ) (k : ℕ) → o ≡ Some k → is_home o k ≡ true
is_home_some o k e = rw e (eq-eqb k k refl)

pub is_home_false : (o : Option ℕ) (k : ℕ) → (o ≡ Some k → ⊥) → is_home o k ≡ false
is_home_false o k n = go (is_home o k) refl
  where
    go : (b : Bool) → is_home o k ≡ b → is_home o k ≡ false
    go true e = absurd (n (is_home_true o k e))
    go false e = e

pub seen_vacant : (s : Setup) (v : Code) (j : ℕ) → s.slot v j ≡ vacant → seen s v j ≡ nothing
unfolding seen sight_of
seen_vacant s v j e = ap (sight_of s) e

pub seen_child : (s : Setup) (v w : Code) (j k : ℕ) → s.slot v j ≡ filled w k → s.home w ≡ Some k → seen s v j ≡ child w
unfolding seen sight_of
seen_child s v w j k e h =
    ap (sight_of s) e ∙ ap (λ b. cond b (child w) other) (is_home_some (s.home w) k h)

pub seen_other : (s : Setup) (v w : Code) (j k : ℕ) → s.slot v j ≡ filled w k → (s.home w ≡ Some k → ⊥) → seen s v j ≡ other
unfolding seen sight_of
seen_other s v w j k e n =
    ap (sight_of s) e ∙ ap (λ b. cond b (child w) other) (is_home_false (s.home w) k n)

-- a child in sight: the slot is filled with it, and the return slot is its home slot
pub record Child (s : Setup) (v : Code) (j : ℕ) (w : Code) : Type 0 where
  pub back : ℕ
  pub slot_is : s.slot v j ≡ filled w back
  pub home_is : s.home w ≡ Some back

pub child_is : (s : Setup) (v : Code) (j : ℕ) (w : Code) → seen s v j ≡ child w → Child s v j w
unfolding seen sight_of
child_is s v j w e = go (s.slot v j) refl
  where
    pick : (x : Code) (k : ℕ) (b : Bool) → s.slot v j ≡ filled x k → is_home (s.home x) k ≡ b → cond b (child x) other ≡ child w → Child s v j w
    pick x k true f h g =
        let same : x ≡ w = cc in
        record { back = k; slot_is = f ∙ ap (λ t. filled t k) same; home_is = ap s.home (sym same) ∙ is_home_true (s.home x) k h }
    pick x k false f h g = let z : ◌≡◌ {A = ℕ} 0 1 = cc in absurd (omega arith)

    go : (t : Slot) → s.slot v j ≡ t → Child s v j w
    go vacant f =
        let g : nothing ≡ child w = sym (ap (sight_of s) f) ∙ e in
        let z : ◌≡◌ {A = ℕ} 0 1 = cc in
        absurd (omega arith)
    go (filled x k) f = pick x k (is_home (s.home x) k) f refl (sym (ap (sight_of s) f) ∙ e)

-- the parent of v: the home slot of v holds it, and its slot `down` leads to v
pub record Parent (s : Setup) (v : Code) : Type 0 where
  pub up : ℕ
  pub parent : Code
  pub down : ℕ
  pub home_is : s.home v ≡ Some up
  pub slot_is : s.slot v up ≡ filled parent down
  pub object_is : Object s parent
  pub below : down < s.width
  pub leads : s.slot parent down ≡ filled v up
  pub lower : s.rank parent < s.rank v

pub homeward_is : (s : Setup) (v : Code) (h : ℕ) → s.home v ≡ Some h → homeward s v ≡ s.slot v h
unfolding homeward
homeward_is s v h e = ap (λ (o : Option ℕ). elim o [ None ↦ vacant | Some k ↦ s.slot v k ]) e

pub homeward_none : (s : Setup) (v : Code) → s.home v ≡ None → homeward s v ≡ vacant
unfolding homeward
homeward_none s v e = ap (λ (o : Option ℕ). elim o [ None ↦ vacant | Some k ↦ s.slot v k ]) e

module _ (s : Setup) (law : Lawful s) where
  abbrev pub home_parent : (v u : Code) (h i : ℕ) → Object s v → s.home v ≡ Some h → s.slot v h ≡ filled u i → Parent s v
  home_parent v u h i o e f =
      let b = law.home_below v h o e in
      record {
        up = h;
        parent = u;
        down = i;
        home_is = e;
        slot_is = f;
        object_is = law.neighbour_object v u h i o b f;
        below = law.return_below v u h i o b f;
        leads = law.return_leads_back v u h i o b f;
        lower = law.parent_lower v u h i o e f;
      }

  pub parent_of : (v : Code) → Object s v → (v ≡ s.root → ⊥) → Parent s v
  parent_of v o n =
      let (h, e) = law.has_home v o n in
      let (u, i, f) = law.home_filled v h o e in
      home_parent v u h i o e f

  -- what is known of a child of v by slot j
  module _ (v : Code) (j : ℕ) (w : Code) (o : Object s v) (lt : j < s.width) (e : seen s v j ≡ child w) where
    pub child_object : Object s w
    child_object = let k = child_is s v j w e in law.neighbour_object v w j k.back o lt k.slot_is

    pub child_homeward : homeward s w ≡ filled v j
    child_homeward =
        let k = child_is s v j w e in
        homeward_is s w k.back k.home_is ∙ law.return_leads_back v w j k.back o lt k.slot_is

    pub child_higher : s.rank v < s.rank w
    child_higher =
        let k = child_is s v j w e in
        law.parent_lower w v k.back j child_object k.home_is (law.return_leads_back v w j k.back o lt k.slot_is)

  -- what each object has if its children have it
  abbrev pub Downward : (Code → Type 0) → Type 0
  Downward P = (v : Code) → Object s v → ((j : ℕ) (w : Code) → j < s.width → seen s v j ≡ child w → P w) → P v

  downward-by : (P : Code → Type 0) → Downward P → (depth : ℕ) (v : Code) → Object s v → s.height < depth + s.rank v → P v
  downward-by P step zero v o d = absurd (omega (arith, law.rank_limit v o))
  downward-by P step (suc depth) v o d =
      step v o
      (λ j w lt e. downward-by P step depth w (child_object v j w o lt e) (omega (arith, child_higher v j w o lt e)))

  pub downward : (P : Code → Type 0) → Downward P → (v : Code) → Object s v → P v
  downward P step v o = downward-by P step (suc s.height) v o (omega arith)

  -- what the root has, and each object if its parent has it
  abbrev pub Upward : (Code → Type 0) → Type 0
  Upward P = (v : Code) → Object s v → (k : Parent s v) → P k.parent → P v

  upward-by : (P : Code → Type 0) → P s.root → Upward P → (most : ℕ) (v : Code) → Object s v → s.rank v ≤ most → P v
  upward-by P base step zero v o r = go (same_cases v s.root)
    where
      go : SameCases v s.root → P v
      go (inl p) = subst P (sym p.0) base
      go (inr p) = absurd (omega (arith, (parent_of v o p.0).lower))
  upward-by P base step (suc most) v o r =
      go (same_cases v s.root) (λ k. upward-by P base step most k.parent k.object_is (omega (arith, k.lower)))
    where
      go : SameCases v s.root → ((k : Parent s v) → P k.parent) → P v
      go (inl p) ih = subst P (sym p.0) base
      go (inr p) ih = let k = parent_of v o p.0 in step v o k (ih k)

  pub upward : (P : Code → Type 0) → P s.root → Upward P → (v : Code) → Object s v → P v
  upward P base step v o = upward-by P base step (s.rank v) v o (omega arith)
