-- The walk from the object at a place stops at the next place.
use Rattle.std.proofs.Common.{◌≡◌, ℕ, zero, suc, ◌+◌, ◌-◌, ◌≤◌, List, [], ◌∷◌, ◌++◌, sym, refl, ap, ◌∙◌, add-one, arith}
use Rattle.std.proofs.lemmas.List.{append_assoc, append-nil}
use Rattle.std.specs.List.{flat_map}
use Rattle.oracle.proofs.Family.{Downward, downward, child_object}
use Rattle.oracle.proofs.InPlace.{at_times}
use Rattle.oracle.proofs.Rises.{rise_child, rise_ends}
use Rattle.oracle.proofs.Unrolled.{OfChildren, unrolled}
use Rattle.oracle.specs.Counting.{total}
use Rattle.oracle.specs.Laws.{Object, Lawful}
use Rattle.oracle.specs.Listing.{child_before, children_from, children, list_of, listing}
use Rattle.oracle.specs.Places.{first_of, at_place}
use Rattle.oracle.specs.Setup.{Code, Setup}
use Rattle.oracle.specs.Sight.{Sight, nothing, other, child, seen}
use Rattle.oracle.specs.Statements.{WalkLeadsOn}
use Rattle.oracle.specs.Walk.{Walked, on, passing, scan, rise, walk, walk_from}

-- each walk from an object of xs stops at the one that follows it in xs ++ ys
abbrev Leads : Setup → List Code → List Code → Type 0
Leads s [] ys = Unit {0}
Leads s (x ∷ xs) ys = ((walk s x).stop ≡ first_of (xs ++ ys)) × Leads s xs ys

leads_append : (s : Setup) (xs zs ys : List Code) → Leads s xs (zs ++ ys) → Leads s zs ys → Leads s (xs ++ zs) ys
leads_append s [] zs ys a b = b
leads_append s (x ∷ xs) zs ys a b =
    (a.0 ∙ ap first_of (sym (append_assoc xs zs ys)), leads_append s xs zs ys a.1 b)

leads_place : (s : Setup) (v : Code) (xs : List Code) (p : ℕ) → Leads s xs [] → at_place xs p ≡ on v → (walk s v).stop ≡ at_place xs (suc p)
unfolding at_place first_of total
leads_place s v [] p a e = absurd (omega (arith, at_times v [] p e))
leads_place s v (y ∷ ys) zero a e = let z : ◌≡◌ {A = ℕ} 0 1 = cc in absurd (omega arith)
leads_place s v (y ∷ ys) (suc zero) a e =
    let f : v ≡ y = cc in
    ap (λ x. (walk s x).stop) f ∙ a.0 ∙ ap first_of (append-nil ys)
leads_place s v (y ∷ ys) (suc (suc p)) a e = leads_place s v ys (suc p) a.1 e

module _ (s : Setup) (law : Lawful s) where
  -- from an object whose rise stops at ys, what is left of the scan stops at the first child left
  scan-stop : (v : Code) (o : Object s v) (rest : Walked) (ys : List Code) → rest.stop ≡ first_of ys → (j n : ℕ) → j + n ≤ s.width → (scan s v j n rest).stop ≡ first_of (flat_map (list_of s) (children_from s v j n) ++ ys)
  unfolding scan passing children_from child_before first_of
  scan-stop v o rest ys h j zero le = h
  scan-stop v o rest ys h j (suc n) le =
      go (seen s v j) refl (scan-stop v o rest ys h (j + 1) n (omega arith))
    where
      go : (t : Sight) → seen s v j ≡ t → (scan s v (j + 1) n rest).stop ≡ first_of (flat_map (list_of s) (children_from s v (j + 1) n) ++ ys) → (passing t (scan s v (j + 1) n rest)).stop ≡ first_of (flat_map (list_of s) (child_before t (children_from s v (j + 1) n)) ++ ys)
      go nothing e ih = ih
      go other e ih = ih
      go (child w) e ih = rw (unrolled s law w (child_object s law v j w o (omega arith) e)) refl

  -- every walk within the list of v leads on, whatever follows, if rising from v leads there
  LeadsOut : Code → Type 0
  LeadsOut v = (ys : List Code) → (rise (s.rank v) s v).stop ≡ first_of ys → Leads s (list_of s v) ys

  leads-children : (v : Code) (o : Object s v) (ys : List Code) → (rise (s.rank v) s v).stop ≡ first_of ys → OfChildren s LeadsOut v → (j n : ℕ) → j + n ≡ s.width → Leads s (flat_map (list_of s) (children_from s v j n)) ys
  unfolding children_from child_before LeadsOut walk_from
  leads-children v o ys h ih j zero e = tt
  leads-children v o ys h ih j (suc n) e =
      go (seen s v j) refl (leads-children v o ys h ih (j + 1) n (omega arith))
    where
      after-it : List Code
      after-it = flat_map (list_of s) (children_from s v (j + 1) n)

      go : (t : Sight) → seen s v j ≡ t → Leads s (flat_map (list_of s) (children_from s v (j + 1) n)) ys → Leads s (flat_map (list_of s) (child_before t (children_from s v (j + 1) n))) ys
      go nothing f a = a
      go other f a = a
      go (child w) f a =
          let m : s.width - (j + 1) ≡ n = omega arith in
          leads_append s (list_of s w) after-it ys
          (ih j w (omega arith) f (after-it ++ ys)
          (ap (λ r. r.stop) (rise_child s law v j w o (omega arith) f)
          ∙ ap (λ c. (scan s v (j + 1) c (rise (s.rank v) s v)).stop) m
          ∙ scan-stop v o (rise (s.rank v) s v) ys h (j + 1) n (omega arith)))
          a

  leads-out : (v : Code) → Object s v → LeadsOut v
  unfolding LeadsOut walk_from children
  leads-out = downward s law LeadsOut step
    where
      step : Downward s law LeadsOut
      step v o ih ys h =
          let m : s.width - 0 ≡ s.width = omega arith in
          rw (unrolled s law v o) (
            ap (λ c. (scan s v 0 c (rise (s.rank v) s v)).stop) m ∙ scan-stop v o (rise (s.rank v) s v) ys h 0 s.width (omega arith),
            leads-children v o ys h ih 0 s.width (omega arith),
          )

  pub leads_on : WalkLeadsOn s
  unfolding LeadsOut first_of
  leads_on v p e =
      rw add-one
      (leads_place s v (listing s) p
      (leads-out s.root law.root_object []
      (ap (λ r. r.stop) (rise_ends s (s.rank s.root) s.root law.root_homeless)))
      e)
