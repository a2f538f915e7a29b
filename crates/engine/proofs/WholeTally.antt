-- The tally at a place that was reached from the first place by next alone.
use Rattle.std.proofs.Common.{◌≡◌, ℕ, zero, suc, ◌+◌, ◌-◌, ◌*◌, ◌<◌, ◌≤◌, min, ◌⊎◌, List, [], ◌∷◌, take, sym, refl, ap, ◌∙◌, ap₂, inl, inr, arith}
use Rattle.std.proofs.lemmas.List.{take_all}
use Rattle.std.proofs.lemmas.Bool.{cases_lt}
use Rattle.oracle.proofs.Complete.{complete}
use Rattle.oracle.proofs.Counts.{steps_counted}
use Rattle.oracle.specs.Counting.{total}
use Rattle.oracle.specs.Laws.{Lawful}
use Rattle.oracle.specs.Listing.{listing}
use Rattle.oracle.specs.Outcomes.{counted}
use Rattle.oracle.specs.Places.{first_of, at_place, at, objects, filled_slots}
use Rattle.oracle.specs.Setup.{Code, Setup}
use Rattle.oracle.specs.Walk.{Spot, on, past, walk}
use Rattle.engine.specs.Counts.{whole_tally}
use Rattle.engine.specs.Tallies.{cleared, booked}
use Rattle.engine.specs.declared.tally.Tally.{Tally}

-- one object more of a list summed up
took : (f : Code → ℕ) (xs : List Code) (q : ℕ) (w : Code) → at_place xs (suc q) ≡ on w → total f (take (suc q) xs) ≡ total f (take q xs) + f w
unfolding at_place first_of total
took f [] zero w e = let z : ◌≡◌ {A = ℕ} 0 1 = cc in absurd (omega arith)
took f [] (suc q) w e = let z : ◌≡◌ {A = ℕ} 0 1 = cc in absurd (omega arith)
took f (x ∷ xs) zero w e = let g : x ≡ w = cc in omega (arith, ap f g)
took f (x ∷ xs) (suc q) w e = let h = took f xs q w e in omega arith

abbrev pub made : Setup → Code → ℕ
made s v = (walk s v).steps

-- The tally at place p of a census that came there from the first place by next alone: the objects up
-- to p, and the steps of the walks from the places before it.
pub record Tallied (s : Setup) (p : ℕ) (t : Tally) : Type 0 where
  pub from : 1 ≤ p
  pub upto : p ≤ objects s + 1
  pub objects_are : t.objects ≡ counted (min p (objects s))
  pub steps_are : t.steps ≡ counted (total (made s) (take (p - 1) (listing s)))

module _ (s : Setup) (law : Lawful s) where
  -- a place with an object is one of the list, and with none it is the one past the end
  pub on_within : (p : ℕ) (w : Code) → at s p ≡ on w → p ≤ objects s
  on_within p w e = go (cases_lt (objects s) p)
    where
      go : (objects s < p) ⊎ (p ≤ objects s) → p ≤ objects s
      go (inl lt) = let f = (complete s law).at_beyond p lt in let z : ◌≡◌ {A = ℕ} 0 1 = cc in absurd (omega arith)
      go (inr le) = le

  pub past_beyond : (p : ℕ) → 1 ≤ p → at s p ≡ past → objects s < p
  past_beyond p from e = go (cases_lt (objects s) p)
    where
      go : (objects s < p) ⊎ (p ≤ objects s) → objects s < p
      go (inl lt) = lt
      go (inr le) =
          let (w, f) = (complete s law).at_within p from le in
          let z : ◌≡◌ {A = ℕ} 0 1 = cc in
          absurd (omega arith)

  pub first_tallied : Tallied s 1 cleared
  unfolding total
  first_tallied =
      let le = on_within 1 s.root (complete s law).root_first in
      record { from = omega arith; upto = omega arith; objects_are = omega arith; steps_are = refl }

  -- the steps of one more walk
  pub more_steps : (p : ℕ) (w : Code) → 1 ≤ p → at s p ≡ on w → total (made s) (take (p + 1 - 1) (listing s)) ≡ total (made s) (take (p - 1) (listing s)) + made s w
  more_steps zero w from e = absurd (omega arith)
  more_steps (suc q) w from e =
      let a : suc q + 1 - 1 ≡ suc q = omega arith in
      let b : suc q - 1 ≡ q = omega arith in
      ap (λ n. total (made s) (take n (listing s))) a
      ∙ took (made s) (listing s) q w e
      ∙ sym (ap (λ n. total (made s) (take n (listing s)) + made s w) b)

  pub next_tallied : (p : ℕ) (t : Tally) (w : Code) → at s p ≡ on w → Tallied s p t → (spot : Spot) → at s (p + 1) ≡ spot → Tallied s (p + 1) (booked spot (made s w) t)
  next_tallied p t w e h (on x) f =
      let le = on_within p w e in
      let more = on_within (p + 1) x f in
      let steps = more_steps p w h.from e in
      record { from = omega arith; upto = omega arith; objects_are = omega arith; steps_are = omega arith }
  next_tallied p t w e h past f =
      let le = on_within p w e in
      let end = past_beyond (p + 1) (omega arith) f in
      let steps = more_steps p w h.from e in
      record { from = omega arith; upto = omega arith; objects_are = omega arith; steps_are = omega arith }

  -- the steps of the walks from all places
  pub all_steps : (p : ℕ) → p ≡ objects s + 1 → total (made s) (take (p - 1) (listing s)) ≡ objects s * s.width + filled_slots s
  all_steps p e =
      let n : p - 1 ≡ objects s = omega arith in
      ap (total (made s)) (ap (λ k. take k (listing s)) n ∙ take_all (objects s) (listing s) (omega arith))
      ∙ steps_counted s law

  -- past the end the whole list was walked
  pub past_whole : (p : ℕ) (t : Tally) → Tallied s p t → at s p ≡ past → t ≡ whole_tally s
  past_whole p t h e =
      let beyond = past_beyond p h.from e in
      let a : t.objects ≡ counted (objects s) = omega arith in
      let b = h.steps_are ∙ ap counted (all_steps p (omega (arith, h.upto))) in
      ap₂ (λ x y. record { objects = x; steps = y }) a b
