-- The list of an object is the object, followed by the lists of its children.
use Rattle.std.proofs.Common.{◌≡◌, ℕ, zero, suc, ◌+◌, ◌<◌, ◌≤◌, List, [], ◌∷◌, refl, ap, arith}
use Rattle.std.proofs.ByRecursion.{All-append}
use Rattle.std.specs.List.{flat_map, AllByRecursion}
use Rattle.oracle.proofs.Family.{downward, child_object, child_higher}
use Rattle.oracle.specs.Laws.{Object, Lawful}
use Rattle.oracle.specs.Listing.{child_before, children_from, children, listed, list_of}
use Rattle.oracle.specs.Setup.{Code, Setup}
use Rattle.oracle.specs.Sight.{Sight, nothing, other, child, seen}

joined_same : (F G : Code → List Code) (ws : List Code) → AllByRecursion (λ w. F w ≡ G w) ws → flat_map F ws ≡ flat_map G ws
joined_same F G [] a = refl
joined_same F G (w ∷ ws) a = let h = joined_same F G ws a.1 in cc

joined_all : (P : Code → Type 0) (F : Code → List Code) (ws : List Code) → AllByRecursion (λ w. AllByRecursion P (F w)) ws → AllByRecursion P (flat_map F ws)
joined_all P F [] a = tt
joined_all P F (w ∷ ws) a = All-append P (F w) (flat_map F ws) a.0 (joined_all P F ws a.1)

-- what holds of each child of v by any slot, as P says it
abbrev pub OfChildren : Setup → (Code → Type 0) → Code → Type 0
OfChildren s P v = (j : ℕ) (w : Code) → j < s.width → seen s v j ≡ child w → P w

module _ (s : Setup) (P : Code → Type 0) (v : Code) (each : OfChildren s P v) where
  pub children_from_all : (j n : ℕ) → j + n ≤ s.width → AllByRecursion P (children_from s v j n)
  unfolding children_from child_before
  children_from_all j zero le = tt
  children_from_all j (suc n) le = go (seen s v j) refl (children_from_all (j + 1) n (omega arith))
    where
      go : (t : Sight) → seen s v j ≡ t → AllByRecursion P (children_from s v (j + 1) n) → AllByRecursion P (child_before t (children_from s v (j + 1) n))
      go nothing e a = a
      go other e a = a
      go (child w) e a = (each j w (omega arith) e, a)

  pub children_all : AllByRecursion P (children s v)
  unfolding children
  children_all = children_from_all 0 s.width (omega arith)

module _ (s : Setup) (law : Lawful s) where
  -- any two depths that suffice give one list
  listed_same : (v : Code) → Object s v → (c d : ℕ) → s.height < c + s.rank v → s.height < d + s.rank v → listed c s v ≡ listed d s v
  unfolding listed
  listed_same = downward s law (λ v. (c d : ℕ) → s.height < c + s.rank v → s.height < d + s.rank v → listed c s v ≡ listed d s v) step
    where
      step : (v : Code) → Object s v → OfChildren s (λ w. (c d : ℕ) → s.height < c + s.rank w → s.height < d + s.rank w → listed c s w ≡ listed d s w) v → (c d : ℕ) → s.height < c + s.rank v → s.height < d + s.rank v → listed c s v ≡ listed d s v
      step v o ih zero d a b = absurd (omega (arith, law.rank_limit v o))
      step v o ih (suc c) zero a b = absurd (omega (arith, law.rank_limit v o))
      step v o ih (suc c) (suc d) a b =
          ap (λ ws. v ∷ ws)
          (joined_same (listed c s) (listed d s) (children s v)
          (children_all s (λ w. listed c s w ≡ listed d s w) v
          (λ j w lt e.
          let h = child_higher s law v j w o lt e in
          ih j w lt e c d (omega arith) (omega arith))))

  pub unrolled : (v : Code) → Object s v → list_of s v ≡ v ∷ flat_map (list_of s) (children s v)
  unfolding listed list_of
  unrolled v o =
      ap (λ ws. v ∷ ws)
      (joined_same (listed s.height s) (list_of s) (children s v)
      (children_all s (λ w. listed s.height s w ≡ list_of s w) v
      (λ j w lt e.
      let h = child_higher s law v j w o lt e in
      listed_same w (child_object s law v j w o lt e) s.height (suc s.height) (omega arith) (omega arith))))

  -- only objects stand in a list
  pub list_objects : (v : Code) → Object s v → AllByRecursion (Object s) (list_of s v)
  list_objects = downward s law (λ v. AllByRecursion (Object s) (list_of s v)) step
    where
      step : (v : Code) → Object s v → OfChildren s (λ w. AllByRecursion (Object s) (list_of s w)) v → AllByRecursion (Object s) (list_of s v)
      step v o ih =
          rw (unrolled v o)
          (o, joined_all (Object s) (list_of s) (children s v) (children_all s (λ w. AllByRecursion (Object s) (list_of s w)) v ih))
