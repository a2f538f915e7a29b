-- The answer of a step.
use Rattle.std.proofs.Common.{◌≡◌, ℕ, ◌<◌, Bool, true, false, Some, None, Ok, Err, Option, Result, sym, ap, ◌∙◌}
use Rattle.std.proofs.lemmas.Bool.{lt-ltb}
use Rattle.oracle.specs.Calls.{into, stepped}
use Rattle.oracle.specs.Setup.{Code, vacant, filled}
use Rattle.refusals.specs.declared.Refusal.{Refusal}
use Rattle.refusals.specs.declared.Refusal.TheVariants.{SlotRange}
use Rattle.pairs.specs.Pairs.{pair_count}
use Rattle.triangulations.proofs.Objects.{slot_filled, slot_vacant}
use Rattle.triangulations.specs.Census.{polygon, slot_of}
use Rattle.triangulations.specs.Codes.{members, code_of}
use Rattle.triangulations.specs.Moves.{replacement, exchanged}
use Rattle.triangulations.specs.Textbook.{PairSet}

module _ (n : ℕ) (v : Code) (j : ℕ) where
  step-at : Bool → Result (Option ℕ) Refusal × Code
  step-at b = elim b [ true ↦ into v (slot_of n (members v) j) | false ↦ (Err SlotRange, v) ]

  pub step_vacant : j < pair_count n → slot_of n (members v) j ≡ vacant → (Ok None, v) ≡ stepped (polygon n) v j
  unfolding step-at
  step_vacant h e = sym (ap step-at (lt-ltb j (pair_count n) h) ∙ ap (into v) e)

  pub step_filled : (w : Code) (k : ℕ) → j < pair_count n → slot_of n (members v) j ≡ filled w k → (Ok (Some k), w) ≡ stepped (polygon n) v j
  unfolding step-at
  step_filled w k h e = sym (ap step-at (lt-ltb j (pair_count n) h) ∙ ap (into v) e)

-- the step from a set to the one with pair k in place of pair j
pub step_done : (n : ℕ) (S : PairSet) (j k : ℕ) (w : Code) → members (code_of S) ≡ S → S j ≡ 1 → replacement n S j ≡ Some k
    → w ≡ code_of (exchanged S j k) → j < pair_count n → (Ok (Some k), w) ≡ stepped (polygon n) (code_of S) j
step_done n S j k w same m r q l =
    step_filled n (code_of S) j w k l
    (ap (λ (T : PairSet). slot_of n T j) same ∙ slot_filled n S j k m r ∙ ap (λ (x : Code). filled x k) (sym q))

pub step_none : (n : ℕ) (S : PairSet) (j : ℕ) → members (code_of S) ≡ S → S j ≡ 0 → j < pair_count n
    → (Ok None, code_of S) ≡ stepped (polygon n) (code_of S) j
step_none n S j same z l =
    step_vacant n (code_of S) j l (ap (λ (T : PairSet). slot_of n T j) same ∙ slot_vacant n S j z)
