-- A parent stands before its children.
use Rattle.std.proofs.Common.{◌≡◌, ℕ, ◌<◌, ◌≤◌, ◌⊎◌, List, [], ◌∷◌, ◌++◌, refl, ap, ◌∙◌, inl, inr, arith}
use Rattle.std.proofs.lemmas.Bool.{cases_eq}
use Rattle.std.specs.List.{flat_map, AllByRecursion}
use Rattle.oracle.proofs.Codes.{SameCases, same_cases, same_apart, total_append}
use Rattle.oracle.proofs.Family.{Parent, child_homeward, homeward_is, downward}
use Rattle.oracle.proofs.InPlace.{place_here, place_later, place_positive, place_in_front, place_behind}
use Rattle.oracle.proofs.Once.{times_lineage}
use Rattle.oracle.proofs.Unrolled.{OfChildren, children_all, unrolled}
use Rattle.oracle.specs.Counting.{same, times, total}
use Rattle.oracle.specs.Home.{homeward}
use Rattle.oracle.specs.Laws.{Object, Lawful}
use Rattle.oracle.specs.Listing.{children, list_of}
use Rattle.oracle.specs.Places.{place_in}
use Rattle.oracle.specs.Setup.{Code, Setup, filled}

-- u stands in a list if x does, and before it
abbrev Before : Code → Code → List Code → Type 0
Before u x xs = (times x xs ≡ times u xs) × (1 ≤ times x xs → place_in u xs < place_in x xs)

before_joined : (L : Code → List Code) (u x : Code) (ws : List Code) → AllByRecursion (λ w. Before u x (L w)) ws → Before u x (flat_map L ws)
unfolding total
before_joined L u x [] a = (refl, λ h. absurd (omega arith))
before_joined L u x (w ∷ ws) a = go (cases_eq (times x (L w)) 0) (before_joined L u x ws a.1)
  where
    go : (times x (L w) ≡ 0) ⊎ (times x (L w) ≡ 0 → ⊥) → Before u x (flat_map L ws) → Before u x (L w ++ flat_map L ws)
    go (inl z) ih =
        let p = total_append (same x) (L w) (flat_map L ws) in
        let q = total_append (same u) (L w) (flat_map L ws) in
        let b = a.0.0 in (
          omega arith,
          λ h.
              let k = ih.1 (omega arith) in
              omega (arith, place_behind x (L w) (flat_map L ws) z, place_behind u (L w) (flat_map L ws) (omega arith)),
        )
    go (inr z) ih =
        let p = total_append (same x) (L w) (flat_map L ws) in
        let q = total_append (same u) (L w) (flat_map L ws) in
        let b = a.0.0 in
        let some : 1 ≤ times x (L w) = omega arith in (
          omega (arith, ih.0),
          λ h.
              let k = a.0.1 some in
              omega (arith, place_in_front x (L w) (flat_map L ws) some, place_in_front u (L w) (flat_map L ws) (omega arith)),
        )

module _ (s : Setup) (law : Lawful s) (x : Code) (k : Parent s x) where
  apart-from-child : (v : Code) (j : ℕ) (w : Code) → homeward s w ≡ filled v j → (k.parent ≡ v → ⊥) → x ≡ w → ⊥
  apart-from-child v j w e ne f =
      ne (let g = homeward_is s x k.up k.home_is ∙ k.slot_is in let m = ap (homeward s) f in cc)

  pub before : (v : Code) → Object s v → (x ≡ v → ⊥) → Before k.parent x (list_of s v)
  unfolding total
  before = downward s law (λ v. (x ≡ v → ⊥) → Before k.parent x (list_of s v)) step
    where
      step : (v : Code) → Object s v → OfChildren s (λ w. (x ≡ w → ⊥) → Before k.parent x (list_of s w)) v → (x ≡ v → ⊥) → Before k.parent x (list_of s v)
      step v o ih ne = (
        let a = same_apart x v ne in omega (arith, times_lineage s law x k v o),
        λ h. rw (unrolled s law v o) (go (same_cases k.parent v) (rw (unrolled s law v o) at h)),
      )
        where
          rest : List Code
          rest = flat_map (list_of s) (children s v)

          go : SameCases k.parent v → 1 ≤ times x (v ∷ flat_map (list_of s) (children s v)) → place_in k.parent (v ∷ flat_map (list_of s) (children s v)) < place_in x (v ∷ flat_map (list_of s) (children s v))
          go (inl p) h =
              omega (arith, place_here k.parent v rest p.0, place_later x v rest ne, place_positive x rest)
          go (inr p) h =
              let b =
              before_joined (list_of s) k.parent x (children s v)
              (children_all s (λ w. Before k.parent x (list_of s w)) v
              (λ j w lt e. ih j w lt e (apart-from-child v j w (child_homeward s law v j w o lt e) p.0))) in
              let c = b.1 (let z = same_apart x v ne in omega arith) in
              omega (arith, place_later k.parent v rest p.0, place_later x v rest ne)
