-- A listing that is one line.
use Rattle.std.proofs.Common.{◌≡◌, ℕ, List, [], ◌∷◌, ◌++◌, is_ok, if◌then◌else◌, Ok, Err, Result, arith, sym, ap, ◌∙◌}
use Rattle.std.proofs.lemmas.List.{append-nil}
use Rattle.std.specs.declared.alloc.AllocError.{AllocError}
use Rattle.pages.specs.Turns.{Listed}

-- written whole, or not at all
pub listed_line : (r : Result (Unit {0}) AllocError) (bytes text out : List ℕ) → out ≡ (if is_ok r then bytes ++ text else bytes) → Listed bytes (text ∷ []) r out
listed_line (Ok u) bytes text out e = e ∙ ap (λ t. bytes ++ t) (sym (append-nil text))
listed_line (Err x) bytes text out e = (0, omega arith, e ∙ sym (append-nil bytes))
