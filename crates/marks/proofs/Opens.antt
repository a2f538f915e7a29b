-- A row that was judged well, and the code in it.
use Rattle.std.proofs.Common.{◌≡◌, ℕ, ◌+◌, Bool, true, false, eqb, List, Ok, Err, Result, sym, refl, ap, ◌∙◌}
use Rattle.std.specs.List.{between}
use Rattle.refusals.specs.declared.Refusal.{Refusal}
use Rattle.refusals.specs.declared.Refusal.TheVariants.{NotACode}
use Rattle.oracle.specs.Calls.{taken}
use Rattle.oracle.specs.Setup.{Code, Setup}
use Rattle.marks.specs.Opening.{size_in, code_in, recognized, decoded, moved_to}

module _ (s : Setup) (v : Code) (row : List ℕ) (k : ℕ) (judged : Result ℕ Refusal) (e : Ok k ≡ judged) where
  pub same_size : eqb k s.size ≡ true → k ≡ size_in row → taken s v (between 8 (8 + k) row) ≡ moved_to v (decoded s row judged)
  same_size same own =
      ap (λ n. taken s v (between 8 (8 + n) row)) own
      ∙ go (s.object (code_in row))
      ∙ sym (ap (λ b. moved_to v (recognized b (s.object (code_in row)) (code_in row))) same)
      ∙ ap (λ j. moved_to v (decoded s row j)) e
    where
      go : (b : Bool) → (elim b [ true ↦ (Ok tt, code_in row) | false ↦ (Err NotACode, v) ]) ≡ moved_to v (recognized true b (code_in row))
      go true = refl
      go false = refl

  pub other_size : eqb k s.size ≡ false → (Err NotACode, v) ≡ moved_to v (decoded s row judged)
  other_size other =
      sym (ap (λ b. moved_to v (recognized b (s.object (code_in row)) (code_in row))) other)
      ∙ ap (λ j. moved_to v (decoded s row j)) e
