-- A family of masks that keeps the laws gives a lawful set-up on codes.
use Rattle.std.proofs.Common.{◌≡◌, ℕ, ◌<◌, true, Some, None, Option, sym, ap, ◌∙◌, subst, arith}
use Rattle.std.proofs.lemmas.Bool.{and_parts, and_from}
use Rattle.oracle.specs.Laws.{Lawful, Object}
use Rattle.oracle.specs.Setup.{Code, filled}
use Rattle.masks.specs.Codes.{code, number, is_code}
use Rattle.masks.specs.Family.{Family, FamilyLaws, as_slot, coded}
use Rattle.masks.proofs.Codes.{number_code, code_is, code_length, code_bytes, code_number}

pub slot_filled : (o : Option (ℕ × ℕ)) (w : Code) (k : ℕ) → as_slot o ≡ filled w k → (r : ℕ) × (o ≡ Some (r, k)) × (w ≡ code r)
slot_filled None w k e = let z : ◌≡◌ {A = ℕ} 0 1 = cc in absurd (omega arith)
slot_filled (Some x) w k e =
    let same : x.1 ≡ k = cc in
    (x.0, ap (λ y. Some (x.0, y)) same, cc)

module _ (f : Family) (laws : FamilyLaws f) where
  -- an object's two parts
  coded-row : (v : Code) → Object (coded f) v → is_code v ≡ true
  coded-row v o = (and_parts (is_code v) (f.object (number v)) o).0

  coded-mask : (v : Code) → Object (coded f) v → f.object (number v) ≡ true
  coded-mask v o = (and_parts (is_code v) (f.object (number v)) o).1

  number-back : (s : ℕ) → f.object s ≡ true → number (code s) ≡ s
  number-back s h = number_code s (laws.in_a_word s h)

  pub coded_object : (s : ℕ) → f.object s ≡ true → Object (coded f) (code s)
  coded_object s h = and_from (is_code (code s)) (f.object (number (code s))) (code_is s) (ap f.object (number-back s h) ∙ h)

  -- a filled slot of a code comes from one of its mask
  abbrev Leads : Code → Code → ℕ → ℕ → Type 0
  Leads v w j k = (r : ℕ) × (f.slot (number v) j ≡ Some (r, k)) × (w ≡ code r)

  leads : (v w : Code) (j k : ℕ) → as_slot (f.slot (number v) j) ≡ filled w k → Leads v w j k
  leads v w j k e = slot_filled (f.slot (number v) j) w k e

  neighbour : (v w : Code) (j k : ℕ) → Object (coded f) v → j < f.width → (x : Leads v w j k) → f.object x.0 ≡ true
  neighbour v w j k o l x = laws.neighbour_object (number v) x.0 j k (coded-mask v o) l x.1

  back : (v w : Code) (j k : ℕ) → Object (coded f) v → j < f.width → Leads v w j k → as_slot (f.slot (number w) k) ≡ filled v j
  back v w j k o l x =
      let same : number w ≡ x.0 = ap number x.2 ∙ number-back x.0 (neighbour v w j k o l x) in
      ap (λ s. as_slot (f.slot s k)) same
      ∙ ap as_slot (laws.return_leads_back (number v) x.0 j k (coded-mask v o) l x.1)
      ∙ ap (λ c. filled c j) (code_number v (coded-row v o))

  lower : (v u : Code) (h i : ℕ) → Object (coded f) v → f.home (number v) ≡ Some h → Leads v u h i → f.rank (number u) < f.rank (number v)
  lower v u h i o e x =
      let m = coded-mask v o in
      let l = laws.home_below (number v) h m e in
      let same : number u ≡ x.0 = ap number x.2 ∙ number-back x.0 (neighbour v u h i o l x) in
      subst (λ s. f.rank s < f.rank (number v)) (sym same) (laws.parent_lower (number v) x.0 h i m e x.1)

  at-root : number (code f.root) ≡ f.root
  at-root = number-back f.root laws.root_object

  pub coded_lawful : Lawful (coded f)
  coded_lawful =
      record {
        width_limit = laws.width_limit;
        size_positive = omega arith;
        size_limit = omega arith;
        height_limit = laws.height_limit;
        code_size = λ v o. code_length v (coded-row v o);
        code_bytes = λ v o. code_bytes v (coded-row v o);
        rank_limit = λ v o. laws.rank_limit (number v) (coded-mask v o);
        neighbour_object = λ v w j k o l e.
            let x = leads v w j k e in
            subst (λ c. Object (coded f) c) (sym x.2) (coded_object x.0 (neighbour v w j k o l x));
        return_below = λ v w j k o l e.
            let x = leads v w j k e in
            laws.return_below (number v) x.0 j k (coded-mask v o) l x.1;
        return_leads_back = λ v w j k o l e. back v w j k o l (leads v w j k e);
        root_object = coded_object f.root laws.root_object;
        root_rank = ap f.rank at-root ∙ laws.root_rank;
        root_homeless = ap f.home at-root ∙ laws.root_homeless;
        has_home = λ v o ne. laws.has_home (number v) (coded-mask v o) (λ e. ne (sym (code_number v (coded-row v o)) ∙ ap code e));
        home_below = λ v h o e. laws.home_below (number v) h (coded-mask v o) e;
        home_filled = λ v h o e.
            let x = laws.home_filled (number v) h (coded-mask v o) e in
            (code x.0, x.1, ap as_slot x.2);
        parent_lower = λ v u h i o e s. lower v u h i o e (leads v u h i s);
      }
