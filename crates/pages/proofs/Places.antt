-- What is left of a listing at a place: the line of the object there and what is left at the next
-- place, or the last line.
use Rattle.std.proofs.Common.{◌≡◌, ℕ, zero, suc, ◌+◌, ◌-◌, ◌<◌, ◌≤◌, Bool, true, false, cond, not, ltb, leb, List, [], ◌∷◌, length, drop, is_some, None, sym, refl, ap, ◌∙◌, ap₂, arith, ltb-false}
use Rattle.std.proofs.lemmas.List.{drop-drop}
use Rattle.std.proofs.lemmas.Bool.Decides.{nat_tests}
use Rattle.oracle.specs.Listing.{listing}
use Rattle.oracle.specs.Outcomes.{ceiling, counted}
use Rattle.oracle.specs.Places.{first_of, at_place, at}
use Rattle.oracle.specs.Setup.{Code, Setup}
use Rattle.oracle.specs.Walk.{Spot, on, past, walk}
use Rattle.engine.specs.Places.{rank_at, next_from}
use Rattle.engine.specs.Plain.{plain_next}
use Rattle.engine.specs.Tallies.{booked, booked_from}
use Rattle.engine.specs.View.{View, begun}
use Rattle.engine.specs.declared.tally.Tally.{Tally}
use Rattle.lines.specs.Texts.{last_text}
use Rattle.pages.proofs.Listed.{lines_more, lines_full, lines_none, from_first}
use Rattle.pages.specs.Due.{due_rank}
use Rattle.pages.specs.Lines.{line_of, walk_steps, lines_from, left_at, all_lines}

first_cons : (vs : List Code) (v : Code) → first_of vs ≡ on v → vs ≡ v ∷ drop 1 vs
unfolding first_of
first_cons [] v e = let z : ◌≡◌ {A = ℕ} 0 1 = cc in absurd (omega arith)
first_cons (x ∷ xs) v e = let h : x ≡ v = cc in ap (λ t. t ∷ xs) h

first_none : (vs : List Code) → first_of vs ≡ past → vs ≡ []
unfolding first_of
first_none [] e = refl
first_none (x ∷ xs) e = let z : ◌≡◌ {A = ℕ} 0 1 = cc in absurd (omega arith)

above_none : (n : ℕ) → leb (suc n) 0 ≡ false
above_none n = grind (arith, nat_tests)

steps_booked : (spot : Spot) (n : ℕ) (t : Tally) → (booked spot n t).steps ≡ counted (t.steps + n)
steps_booked (on w) n t = refl
steps_booked past n t = refl

module _ (s : Setup) where
  -- the objects from a place on
  ahead-on : (p : ℕ) (v : Code) → at s p ≡ on v → drop (p - 1) (listing s) ≡ v ∷ drop (p + 1 - 1) (listing s)
  unfolding at_place
  ahead-on zero v e = let z : ◌≡◌ {A = ℕ} 0 1 = cc in absurd (omega arith)
  ahead-on (suc q) v e =
      let a : suc q - 1 ≡ q = omega arith in
      let b : q + 1 ≡ suc q + 1 - 1 = omega arith in
      ap (λ n. drop n (listing s)) a
      ∙ first_cons (drop q (listing s)) v e
      ∙ ap (λ t. v ∷ t) (drop-drop 1 q (listing s) ∙ ap (λ n. drop n (listing s)) b)

  ahead_none : (p : ℕ) → 1 ≤ p → at s p ≡ past → drop (p - 1) (listing s) ≡ []
  unfolding at_place
  ahead_none zero from e = absurd (omega arith)
  ahead_none (suc q) from e =
      let a : suc q - 1 ≡ q = omega arith in
      ap (λ n. drop n (listing s)) a ∙ first_none (drop q (listing s)) e

  -- the place after a next, and its steps
  next-place-is : (v : View) (w : Code) → at s v.stand.place ≡ on w → (plain_next s v).1.stand.place ≡ v.stand.place + 1
  next-place-is v w e = ap (λ q. (next_from s v.stand q).1.place) e

  next-steps-are : (v : View) (w : Code) → at s v.stand.place ≡ on w → (plain_next s v).1.tally.steps ≡ counted (v.tally.steps + walk_steps s w)
  next-steps-are v w e =
      ap (λ q. (booked_from s v.stand.place v.tally q).steps) e
      ∙ steps_booked (at s (v.stand.place + 1)) (walk s w).steps v.tally

  pub object_left : (v : View) (w : Code) (most printed : ℕ) → at s v.stand.place ≡ on w → printed < most → left_at s v most printed false ≡ line_of s w ∷ left_at s (plain_next s v).1 most (printed + 1) false
  object_left v w most printed e lt =
      let p = v.stand.place in
      let n = most - (printed + 1) in
      let m : most - printed ≡ suc n = omega arith in
      ap₂ (λ a b. lines_from s a printed v.tally.steps b) m (ahead-on p w e)
      ∙ lines_more s n printed v.tally.steps w (drop (p + 1 - 1) (listing s))
      ∙ sym
      (ap₂ (λ a b. line_of s w ∷ lines_from s n (printed + 1) a (drop (b - 1) (listing s))) (next-steps-are v w e) (next-place-is v w e))

  pub last_left : (v : View) (most printed : ℕ) → 1 ≤ v.stand.place → v.tally.steps ≤ ceiling → due_rank s v most printed ≡ None → left_at s v most printed false ≡ last_text (not (is_some (rank_at s (at s v.stand.place)))) printed v.tally.steps ∷ []
  last_left v most printed from small due = go (at s v.stand.place) refl
    where
      t : ℕ
      t = v.tally.steps

      steps : counted t ≡ t
      steps = omega arith

      full : (b : Bool) → ltb printed most ≡ b → (w : Code) → at s v.stand.place ≡ on w → left_at s v most printed false ≡ last_text false printed t ∷ []
      full true h w e =
          let f = ap₂ (λ a q. cond a (rank_at s q) None) h e in
          let z : ◌≡◌ {A = ℕ} 0 1 = cc in
          absurd (omega arith)
      full false h w e =
          let m : most - printed ≡ 0 = omega (arith, ltb-false printed most h) in
          ap₂ (λ a b. lines_from s a printed t b) m (ahead-on v.stand.place w e)
          ∙ lines_full s printed t (w ∷ drop (v.stand.place + 1 - 1) (listing s))
          ∙ ap₂ (λ a x. last_text a printed x ∷ []) (above_none (length (drop (v.stand.place + 1 - 1) (listing s)))) steps

      go : (spot : Spot) → at s v.stand.place ≡ spot → left_at s v most printed false ≡ last_text (not (is_some (rank_at s spot))) printed t ∷ []
      go (on w) e = full (ltb printed most) refl w e
      go past e =
          ap (lines_from s (most - printed) printed t) (ahead_none v.stand.place from e)
          ∙ lines_none s (most - printed) printed t
          ∙ ap (λ x. last_text true printed x ∷ []) steps

-- a listing that begins
pub begins_left : (s now : Setup) (v : View) (most : ℕ) → now ≡ s → v ≡ begun s → left_at now v most 0 false ≡ all_lines s most
begins_left s now v most same start =
    let m : most - 0 ≡ most = omega arith in
    ap₂ (λ n w. left_at n w most 0 false) same start
    ∙ ap (λ n. lines_from s n 0 0 (listing s)) m
    ∙ from_first s most
