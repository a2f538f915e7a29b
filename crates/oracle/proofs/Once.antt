-- Every object stands in the list exactly once: x stands in the list of v as often as its parent,
-- and once more if it is v.
use Rattle.std.proofs.Common.{◌≡◌, ℕ, zero, suc, ◌+◌, ◌<◌, ◌≤◌, ◌⊎◌, List, [], ◌∷◌, sym, refl, ap, ◌∙◌, inl, inr, arith}
use Rattle.std.proofs.lemmas.Bool.{cases_eq}
use Rattle.std.specs.List.{flat_map, AllByRecursion}
use Rattle.oracle.proofs.Codes.{SameCases, same_cases, same_self, same_apart, total_append}
use Rattle.oracle.proofs.Family.{Parent, child_homeward, seen_child, homeward_is, homeward_none, downward, upward}
use Rattle.oracle.proofs.Unrolled.{OfChildren, children_all, unrolled}
use Rattle.oracle.specs.Counting.{same, times, total}
use Rattle.oracle.specs.Home.{homeward}
use Rattle.oracle.specs.Laws.{Object, Lawful}
use Rattle.oracle.specs.Listing.{child_before, children_from, children, list_of, listing}
use Rattle.oracle.specs.Setup.{Code, Setup, filled}
use Rattle.oracle.specs.Sight.{Sight, nothing, other, child, seen}

module _ (s : Setup) (law : Lawful s) where
  -- x is no child of v by a slot that does not lead to x from its parent
  no-child : (x v : Code) (j n : ℕ) → Object s v → j + n ≤ s.width → ((i : ℕ) → j ≤ i → homeward s x ≡ filled v i → ⊥) → times x (children_from s v j n) ≡ 0
  unfolding total children_from child_before
  no-child x v j zero o le never = refl
  no-child x v j (suc n) o le never = go (seen s v j) refl (no-child x v (j + 1) n o (omega arith) (λ i a. never i (omega arith)))
    where
      go : (t : Sight) → seen s v j ≡ t → times x (children_from s v (j + 1) n) ≡ 0 → times x (child_before t (children_from s v (j + 1) n)) ≡ 0
      go nothing e h = h
      go other e h = h
      go (child w) e h =
          let z =
          same_apart x w
          (λ p. never j (omega arith) (ap (homeward s) p ∙ child_homeward s law v j w o (omega arith) e)) in
          omega arith

  -- x is a child of its parent by one slot
  one-child : (x v : Code) (j n i : ℕ) → Object s v → j + n ≤ s.width → j ≤ i → i < j + n → homeward s x ≡ filled v i → seen s v i ≡ child x → times x (children_from s v j n) ≡ 1
  unfolding total children_from child_before
  one-child x v j zero i o le a b p q = absurd (omega arith)
  one-child x v j (suc n) i o le a b p q =
      go (cases_eq j i) (seen s v j) refl (λ ne. one-child x v (j + 1) n i o (omega arith) (omega arith) (omega arith) p q)
    where
      go : (j ≡ i) ⊎ (j ≡ i → ⊥) → (t : Sight) → seen s v j ≡ t → ((j ≡ i → ⊥) → times x (children_from s v (j + 1) n) ≡ 1) → times x (child_before t (children_from s v (j + 1) n)) ≡ 1
      go (inl r) t e h =
          let f : t ≡ child x = sym e ∙ ap (seen s v) r ∙ q in
          let g =
          no-child x v (j + 1) n o (omega arith)
          (λ k c w. let same-slot : k ≡ i = cc in omega arith) in
          rw f (let z = same_self x in omega arith)
      go (inr r) nothing e h = h r
      go (inr r) other e h = h r
      go (inr r) (child w) e h =
          let z =
          same_apart x w
          (λ y. r (let k = child_homeward s law v j w o (omega arith) e in let m = ap (homeward s) y in cc)) in
          let g = h r in
          omega arith

  -- x is a child of v once if v is its parent, else not at all
  child-times : (x : Code) (k : Parent s x) (v : Code) → Object s v → times x (children s v) ≡ same k.parent v
  unfolding children
  child-times x k v o = go (same_cases k.parent v)
    where
      way : homeward s x ≡ filled k.parent k.down
      way = homeward_is s x k.up k.home_is ∙ k.slot_is

      go : SameCases k.parent v → times x (children s v) ≡ same k.parent v
      go (inl p) =
          one-child x v 0 s.width k.down o (omega arith) (omega arith) (omega (arith, k.below))
          (way ∙ ap (λ u. filled u k.down) p.0)
          (ap (λ u. seen s u k.down) (sym p.0) ∙ seen_child s k.parent x k.down k.up k.leads k.home_is)
          ∙ sym p.1
      go (inr p) =
          no-child x v 0 s.width o (omega arith) (λ i a q. p.0 (let w = way in cc)) ∙ sym p.1

  root-no-child : (v : Code) → Object s v → times s.root (children s v) ≡ 0
  unfolding children
  root-no-child v o =
      no-child s.root v 0 s.width o (omega arith)
      (λ i a q.
      let r = homeward_none s s.root law.root_homeless in
      let z : ◌≡◌ {A = ℕ} 0 1 = cc in
      absurd (omega arith))

  times-joined : (x u : Code) (ws : List Code) → AllByRecursion (λ w. times x (list_of s w) ≡ same x w + times u (list_of s w)) ws → times x (flat_map (list_of s) ws) ≡ times x ws + times u (flat_map (list_of s) ws)
  unfolding total
  times-joined x u [] a = refl
  times-joined x u (w ∷ ws) a =
      let h = times-joined x u ws a.1 in
      let p = total_append (same x) (list_of s w) (flat_map (list_of s) ws) in
      let q = total_append (same u) (list_of s w) (flat_map (list_of s) ws) in
      omega (arith, a.0)

  pub times_lineage : (x : Code) (k : Parent s x) (v : Code) → Object s v → times x (list_of s v) ≡ same x v + times k.parent (list_of s v)
  unfolding total
  times_lineage x k = downward s law (λ v. times x (list_of s v) ≡ same x v + times k.parent (list_of s v)) step
    where
      step : (v : Code) → Object s v → OfChildren s (λ w. times x (list_of s w) ≡ same x w + times k.parent (list_of s w)) v → times x (list_of s v) ≡ same x v + times k.parent (list_of s v)
      step v o ih =
          let a =
          times-joined x k.parent (children s v)
          (children_all s (λ w. times x (list_of s w) ≡ same x w + times k.parent (list_of s w)) v ih) in
          let b = child-times x k v o in
          rw (unrolled s law v o) (omega arith)

  root-joined : (ws : List Code) → AllByRecursion (λ w. times s.root (list_of s w) ≡ same s.root w) ws → times s.root (flat_map (list_of s) ws) ≡ times s.root ws
  unfolding total
  root-joined [] a = refl
  root-joined (w ∷ ws) a =
      let h = root-joined ws a.1 in
      let p = total_append (same s.root) (list_of s w) (flat_map (list_of s) ws) in
      omega (arith, a.0)

  pub times_root : (v : Code) → Object s v → times s.root (list_of s v) ≡ same s.root v
  unfolding total
  times_root = downward s law (λ v. times s.root (list_of s v) ≡ same s.root v) step
    where
      step : (v : Code) → Object s v → OfChildren s (λ w. times s.root (list_of s w) ≡ same s.root w) v → times s.root (list_of s v) ≡ same s.root v
      step v o ih =
          let a =
          root-joined (children s v) (children_all s (λ w. times s.root (list_of s w) ≡ same s.root w) v ih) in
          let b = root-no-child v o in
          rw (unrolled s law v o) (omega arith)

  pub once : (x : Code) → Object s x → times x (listing s) ≡ 1
  once =
      upward s law (λ x. times x (listing s) ≡ 1)
      (times_root s.root law.root_object ∙ same_self s.root)
      (λ x o k h.
      let a = times_lineage x k s.root law.root_object in
      let b =
      same_apart x s.root
      (λ e.
      let r = law.root_homeless in
      let m = ap s.home e in
      let n = k.home_is in
      let z : ◌≡◌ {A = ℕ} 0 1 = cc in
      absurd (omega arith)) in
      omega arith)
