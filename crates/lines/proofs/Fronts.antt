-- Front parts of bytes, written one after another.
use Rattle.std.proofs.Common.{◌≡◌, ℕ, ◌-◌, List, [], ◌++◌, length, take, drop, IfSome, Some, None, Ok, Err, Option, Result, refl, sym, ap, ◌∙◌, subst, append-nil, append_assoc, take-append-drop}
use Rattle.std.proofs.KnownBytes.{Appends-kept, Appends-nil, Appends-trans}
use Rattle.std.proofs.lemmas.List.{take_rest}
use Rattle.std.specs.Io.KnownBytes.{Appends, Keeps}
use Rattle.lines.specs.Written.{Written, WrittenFront}
use Rattle.sheets.specs.Reading.{Wanted, read_all}
use Rattle.sheets.specs.declared.fault.Fault.{Fault}

-- more of the rest is written
pub moved_on : (bytes front rest : List ℕ) (n : ℕ) → bytes ≡ front ++ rest → bytes ≡ (front ++ take n rest) ++ take (length rest - n) (drop n rest)
moved_on bytes front rest n e =
    e
    ∙ ap (λ t. front ++ t) (sym (take-append-drop n rest))
    ∙ sym (append_assoc front (take n rest) (drop n rest))
    ∙ ap (λ t. (front ++ take n rest) ++ t) (sym (take_rest rest n))

pub none_written : (old : Option (List ℕ)) (bytes : List ℕ) → WrittenFront old old bytes
none_written old bytes = ([], bytes, refl, Appends-nil old)

-- a front part of the bytes behind a front part
pub written_on : (old mid new : Option (List ℕ)) (bytes front rest : List ℕ) → bytes ≡ front ++ rest → Appends old mid front → WrittenFront mid new rest → WrittenFront old new bytes
written_on old mid new bytes front rest split gone (more, left, e, h) = (
  front ++ more,
  left,
  split ∙ ap (λ t. front ++ t) e ∙ sym (append_assoc front more left),
  Appends-trans old mid new front more gone h,
)

-- a front part of a front part
pub written_within : (old new : Option (List ℕ)) (bytes front rest : List ℕ) → bytes ≡ front ++ rest → WrittenFront old new front → WrittenFront old new bytes
written_within old new bytes front rest split (more, left, e, h) =
    (more, left ++ rest, split ∙ ap (λ t. t ++ rest) e ∙ append_assoc more left rest, h)

-- bytes that are written stay so
pub kept_written : {E : Type 0} → (old mid new : Option (List ℕ)) (r : Result (Unit {0}) E) (bytes : List ℕ) → Appends old mid bytes → Keeps mid new → Written old new r bytes
kept_written old mid new (Ok u) bytes h k = Appends-kept old mid new bytes h k
kept_written old mid new (Err e) bytes h k =
    (bytes, [], sym (append-nil bytes), Appends-kept old mid new bytes h k)

-- What is written of a sheet that a reader gave is written of all the bytes that it had left, where both
-- are read as the same.
pub written_of : {E : Type 0} → (known : Option (List ℕ)) (old new : Option (List ℕ)) (r : Result (Unit {0}) E) (sheet : List ℕ) (text : Result Wanted Fault → List ℕ)
    → IfSome known (λ xs. read_all sheet ≡ read_all xs) → Written old new r (text (read_all sheet)) → IfSome known (λ xs. Written old new r (text (read_all xs)))
written_of None old new r sheet text same h = tt
written_of (Some xs) old new r sheet text same h = subst (λ t. Written old new r (text t)) same h
