-- The steps of the walks of all places.
use Rattle.std.proofs.Common.{◌≡◌, ℕ, zero, suc, ◌+◌, ◌-◌, ◌*◌, Bool, true, false, cond, List, [], ◌∷◌, length, refl, ap, arith}
use Rattle.std.specs.List.{flat_map}
use Rattle.oracle.proofs.Codes.{total_append}
use Rattle.oracle.proofs.Family.{Downward, downward}
use Rattle.oracle.proofs.Rises.{rise_child, rise_ends}
use Rattle.oracle.proofs.Unrolled.{OfChildren, unrolled}
use Rattle.oracle.specs.Counting.{total, filled_count, filled_from, filled_of}
use Rattle.oracle.specs.Laws.{Object, Lawful}
use Rattle.oracle.specs.Listing.{child_before, children_from, children, list_of, listing}
use Rattle.oracle.specs.Setup.{Code, Setup, Slot, vacant, filled}
use Rattle.oracle.specs.Sight.{Sight, nothing, other, child, is_home, sight_of, seen}
use Rattle.oracle.specs.Statements.{StepsCounted}
use Rattle.oracle.specs.Walk.{passing, scan, rise, walk, walk_from}

-- 1 if a neighbour is seen
abbrev neighbours : Sight → ℕ
neighbours nothing = 0
neighbours other = 1
neighbours (child w) = 1

filled_seen : (s : Setup) (v : Code) (j : ℕ) → filled_count (s.slot v j) ≡ neighbours (seen s v j)
unfolding seen sight_of filled_count
filled_seen s v j = go (s.slot v j)
  where
    pick : (w : Code) (b : Bool) → ◌≡◌ {A = ℕ} 1 (neighbours (cond b (child w) other))
    pick w true = refl
    pick w false = refl

    go : (t : Slot) → filled_count t ≡ neighbours (sight_of s t)
    go vacant = refl
    go (filled w k) = pick w (is_home (s.home w) k)

-- what an object costs: a step for each slot, and another for each that is filled
abbrev cost : Setup → Code → ℕ
cost s v = s.width + filled_of s v

cost_total : (s : Setup) (xs : List Code) → total (cost s) xs ≡ length xs * s.width + total (filled_of s) xs
unfolding total
cost_total s [] = omega arith
cost_total s (x ∷ xs) = let h = cost_total s xs in omega arith

abbrev made : Setup → Code → ℕ
made s v = (walk s v).steps

module _ (s : Setup) (law : Lawful s) where
  -- the walks within the list of v cost what its objects cost, and the last one rises from v
  Cost : Code → Type 0
  Cost v = total (made s) (list_of s v) ≡ total (cost s) (list_of s v) + (rise (s.rank v) s v).steps

  scan-cost : (v : Code) (o : Object s v) → OfChildren s Cost v → (j n : ℕ) → j + n ≡ s.width → (scan s v j n (rise (s.rank v) s v)).steps + total (made s) (flat_map (list_of s) (children_from s v j n)) ≡ n + filled_from s v j n + total (cost s) (flat_map (list_of s) (children_from s v j n)) + (rise (s.rank v) s v).steps
  unfolding scan passing children_from child_before filled_from total Cost walk_from
  scan-cost v o ih j zero e = omega arith
  scan-cost v o ih j (suc n) e =
      let f = filled_seen s v j in
      rw f (go (seen s v j) refl (scan-cost v o ih (j + 1) n (omega arith)))
    where
      ws : List Code
      ws = children_from s v (j + 1) n

      go : (t : Sight) → seen s v j ≡ t → (scan s v (j + 1) n (rise (s.rank v) s v)).steps + total (made s) (flat_map (list_of s) (children_from s v (j + 1) n)) ≡ n + filled_from s v (j + 1) n + total (cost s) (flat_map (list_of s) (children_from s v (j + 1) n)) + (rise (s.rank v) s v).steps → (passing t (scan s v (j + 1) n (rise (s.rank v) s v))).steps + total (made s) (flat_map (list_of s) (child_before t (children_from s v (j + 1) n))) ≡ suc n + (neighbours t + filled_from s v (j + 1) n) + total (cost s) (flat_map (list_of s) (child_before t (children_from s v (j + 1) n))) + (rise (s.rank v) s v).steps
      go nothing p h = omega arith
      go other p h = omega arith
      go (child w) p h =
          let m : s.width - (j + 1) ≡ n = omega arith in
          let a = ih j w (omega arith) p in
          let b = ap (λ r. r.steps) (rise_child s law v j w o (omega arith) p) in
          let c = ap (λ k. (scan s v (j + 1) k (rise (s.rank v) s v)).steps) m in
          let d = total_append (made s) (list_of s w) (flat_map (list_of s) ws) in
          let g = total_append (cost s) (list_of s w) (flat_map (list_of s) ws) in
          omega arith

  list-cost : (v : Code) → Object s v → Cost v
  unfolding Cost walk_from children total
  list-cost = downward s law Cost step
    where
      step : Downward s law Cost
      step v o ih =
          let m : s.width - 0 ≡ s.width = omega arith in
          let a = ap (λ c. (scan s v 0 c (rise (s.rank v) s v)).steps) m in
          let h = scan-cost v o ih 0 s.width (omega arith) in
          rw (unrolled s law v o) (omega arith)

  pub steps_counted : StepsCounted s
  unfolding Cost
  steps_counted =
      let a = list-cost s.root law.root_object in
      let b = ap (λ r. r.steps) (rise_ends s (s.rank s.root) s.root law.root_homeless) in
      let c = cost_total s (listing s) in
      omega arith
