-- What is written of the bytes of two readers.
use Rattle.std.proofs.Common.{◌≡◌, ℕ, true, is_err, List, [], ◌++◌, IfSome, Some, None, Ok, Err, Option, Result, ap, ◌∙◌, subst, arith}
use Rattle.std.specs.List.{concat}
use Rattle.lines.proofs.Fronts.{none_written}
use Rattle.lines.specs.Written.{Written}
use Rattle.sheets.specs.Reading.{read_all}
use Rattle.printouts.specs.Printed.{replay_text, replay_with}

-- nothing is written where the call failed first
pub unwritten : {E : Type 0} (r : Result (Unit {0}) E) (one two held : Option (List ℕ)) → is_err r ≡ true → IfSome one (λ xs. IfSome two (λ ys. Written held held r (replay_text xs ys)))
unwritten (Ok u) one two held e = let z : ◌≡◌ {A = ℕ} 0 1 = cc in absurd (omega arith)
unwritten (Err x) None two held e = tt
unwritten (Err x) (Some xs) None held e = tt
unwritten (Err x) (Some xs) (Some ys) held e = none_written held (replay_text xs ys)

-- what is written of the bytes that were read is written of all that the readers had left
pub written_of_both : {E : Type 0} (r : Result (Unit {0}) E) (one two old new : Option (List ℕ)) (sheet none acts : List ℕ)
    → IfSome one (λ xs. read_all sheet ≡ read_all xs) → none ≡ [] → IfSome two (λ ys. acts ≡ none ++ ys) → Written old new r (replay_text sheet acts)
    → IfSome one (λ xs. IfSome two (λ ys. Written old new r (replay_text xs ys)))
written_of_both r None two old new sheet none acts e fresh f h = tt
written_of_both r (Some xs) None old new sheet none acts e fresh f h = tt
written_of_both r (Some xs) (Some ys) old new sheet none acts e fresh f h =
    subst (λ (ys : List ℕ). Written old new r (replay_text xs ys)) (f ∙ ap (λ t. t ++ ys) fresh)
    (subst (λ plan. Written old new r (concat (replay_with acts plan))) e h)
