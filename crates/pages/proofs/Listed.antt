-- The lines of a listing, one object at a time, and all of them.
use Rattle.std.proofs.Common.{◌≡◌, ℕ, zero, suc, ◌+◌, min, Bool, true, leb, List, [], ◌∷◌, ◌++◌, map, length, take, refl, ap, ◌∙◌, arith, length-take}
use Rattle.std.proofs.lemmas.List.{take_all}
use Rattle.std.proofs.lemmas.Bool.Decides.{nat_tests}
use Rattle.oracle.proofs.Counts.{steps_counted}
use Rattle.oracle.specs.Counting.{total}
use Rattle.oracle.specs.Laws.{Lawful}
use Rattle.oracle.specs.Listing.{listing}
use Rattle.oracle.specs.Outcomes.{counted}
use Rattle.oracle.specs.Setup.{Code, Setup}
use Rattle.lines.specs.Texts.{last_text}
use Rattle.pages.specs.Lines.{line_of, count_of, object_line, walk_steps, passed, lines_from, steps_of, all_lines, WholeSteps}

-- last lines with equal parts
last_same : (a b : Bool) (k l t u : ℕ) → a ≡ b → k ≡ l → t ≡ u → last_text a k t ≡ last_text b l u
last_same a b k l t u p q r = cc

suc_leb : (m n : ℕ) → leb (suc m) (suc n) ≡ leb m n
suc_leb m n = grind (arith, nat_tests)

module _ (s : Setup) where
  pub lines_more : (n k t : ℕ) (v : Code) (vs : List Code) → lines_from s (suc n) k t (v ∷ vs) ≡ line_of s v ∷ lines_from s n (k + 1) (counted (t + walk_steps s v)) vs
  unfolding passed total
  lines_more n k t v vs =
      let p = passed s n vs in
      let steps : counted (t + (walk_steps s v + total (walk_steps s) p)) ≡ counted (counted (t + walk_steps s v) + total (walk_steps s) p) = omega arith in
      let count : k + (1 + total (count_of s) p) ≡ k + 1 + total (count_of s) p = omega arith in
      ap (λ l. line_of s v ∷ (map (line_of s) p ++ (l ∷ [])))
      (last_same _ _ _ _ _ _ (suc_leb (length vs) (length p)) count steps)

  pub lines_full : (k t : ℕ) (vs : List Code) → lines_from s 0 k t vs ≡ last_text (leb (length vs) 0) k (counted t) ∷ []
  unfolding passed total
  lines_full k t vs =
      let steps : counted (t + 0) ≡ counted t = omega arith in
      let count : k + 0 ≡ k = omega arith in
      ap (λ l. l ∷ []) (last_same _ _ _ _ _ _ refl count steps)

  pub lines_none : (n k t : ℕ) → lines_from s n k t [] ≡ last_text true k (counted t) ∷ []
  unfolding passed total
  lines_none zero k t = lines_full k t []
  lines_none (suc n) k t =
      let steps : counted (t + 0) ≡ counted t = omega arith in
      let count : k + 0 ≡ k = omega arith in
      ap (λ l. l ∷ []) (last_same true true _ _ _ _ refl count steps)

  -- every object is printed, so that n are gone past
  passed-take : (n : ℕ) (vs : List Code) → passed s n vs ≡ take n vs
  unfolding passed
  passed-take zero vs = refl
  passed-take (suc n) [] = refl
  passed-take (suc n) (v ∷ vs) = ap (λ t. v ∷ t) (passed-take n vs)

  counts : (vs : List Code) → total (count_of s) vs ≡ length vs
  unfolding total
  counts [] = refl
  counts (v ∷ vs) = let h = counts vs in omega arith

  pub from_first : (most : ℕ) → lines_from s most 0 0 (listing s) ≡ all_lines s most
  from_first most =
      let vs = listing s in
      let p = passed-take most vs in
      let n = length-take most vs in
      let c = counts (take most vs) in
      let whole : leb (length vs) (length (take most vs)) ≡ leb (length vs) most = grind (arith, nat_tests) in
      let count : 0 + total (count_of s) (take most vs) ≡ min (length vs) most = omega arith in
      let steps : counted (0 + total (walk_steps s) (take most vs)) ≡ steps_of s most = omega arith in
      ap (λ q. map (line_of s) q ++ (last_text (leb (length vs) (length q)) (0 + total (count_of s) q) (counted (0 + total (walk_steps s) q)) ∷ [])) p
      ∙ ap (λ l. map (object_line s) (take most vs) ++ (l ∷ [])) (last_same _ _ _ _ _ _ whole count steps)

  pub whole_steps : Lawful s → (most : ℕ) → WholeSteps s most
  whole_steps law most le =
      ap counted (ap (total (walk_steps s)) (take_all most (listing s) le) ∙ steps_counted s law)
