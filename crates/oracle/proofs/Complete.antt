-- The list holds every object exactly once; its numbers are those of any such list.
use Rattle.std.proofs.Common.{◌≡◌, ℕ, ◌<◌, Bool, true, false, List, Some, sym, refl, ap, ◌∙◌, arith}
use Rattle.std.proofs.lemmas.Bool.{both_ways}
use Rattle.oracle.proofs.Codes.{times_none, total_ones}
use Rattle.oracle.proofs.Family.{child_is, home_parent, seen_child}
use Rattle.oracle.proofs.InPlace as in_place
use Rattle.oracle.proofs.Once.{once}
use Rattle.oracle.proofs.ParentsBefore.{before}
use Rattle.oracle.proofs.Recount.{recounted}
use Rattle.oracle.proofs.Unrolled.{unrolled, list_objects}
use Rattle.oracle.specs.Counting.{Enumerates, times, filled_of}
use Rattle.oracle.specs.Laws.{Object, Lawful}
use Rattle.oracle.specs.Listing.{listing}
use Rattle.oracle.specs.Places.{first_of, at_place, at, place}
use Rattle.oracle.specs.Setup.{Code, Setup, filled}
use Rattle.oracle.specs.Statements.{Complete, Numbered}
use Rattle.oracle.specs.Walk.{on}

module _ (s : Setup) (law : Lawful s) where
  pub enumerated : Enumerates s (listing s)
  enumerated = record { each_once = once s law; nothing_else = list_objects s law s.root law.root_object }

  root_first : at s 1 ≡ on s.root
  unfolding at_place first_of
  root_first = rw (unrolled s law s.root law.root_object) refl

  parents_before : (v u : Code) (h i : ℕ) → Object s v → s.home v ≡ Some h → s.slot v h ≡ filled u i → place s u < place s v
  parents_before v u h i o e f =
      (before s law v (home_parent s law v u h i o e f) s.root law.root_object
      (λ r.
      let a = law.root_homeless in
      let b = ap s.home r in
      let z : ◌≡◌ {A = ℕ} 0 1 = cc in
      absurd (omega arith))
      ).1
      (omega (arith, once s law v o))

  -- a code that stands somewhere is an object, and stands there once
  at_object : (v : Code) (p : ℕ) → at s p ≡ on v → Object s v
  at_object v p e = in_place.at_all (Object s) v (listing s) p enumerated.nothing_else e

  pub complete : Complete s
  complete =
      record {
        enumerated = enumerated;
        root_first = root_first;
        parents_before = parents_before;
        place_from = λ v o. in_place.place_positive v (listing s);
        place_upto = λ v o. in_place.place_within v (listing s) (omega (arith, once s law v o));
        at_its_place = λ v o. in_place.at_its_place v (listing s) (omega (arith, once s law v o));
        place_of_at =
            λ v p e. in_place.place_of_at v (listing s) p (omega (arith, once s law v (at_object v p e))) e;
        at_object = at_object;
        at_within = in_place.at_within (listing s);
        at_beyond = in_place.at_beyond (listing s);
        shows_child = seen_child s;
        child_shown = λ v w j e. let k = child_is s v j w e in (k.back, k.slot_is, k.home_is);
        unrolled = unrolled s law;
      }

  -- any two such lists hold each code equally often
  same-times : (xs ys : List Code) → Enumerates s xs → Enumerates s ys → (z : Code) → times z xs ≡ times z ys
  same-times xs ys a b z = go (s.object z) refl
    where
      go : (t : Bool) → s.object z ≡ t → times z xs ≡ times z ys
      go true e = a.each_once z e ∙ sym (b.each_once z e)
      go false e =
          times_none (Object s) z xs a.nothing_else (both_ways (s.object z) e)
          ∙ sym (times_none (Object s) z ys b.nothing_else (both_ways (s.object z) e))

  pub numbered : Numbered s
  numbered xs a =
      let h = same-times xs (listing s) a enumerated in (
        sym (total_ones xs) ∙ recounted (λ _. 1) xs (listing s) h ∙ total_ones (listing s),
        recounted (filled_of s) xs (listing s) h,
      )
