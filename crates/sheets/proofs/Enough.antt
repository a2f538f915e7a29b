-- One byte more than a sheet has decides what bytes are read as.
use Rattle.std.proofs.Common.{◌≡◌, ℕ, ◌+◌, ◌-◌, ◌<◌, ◌≤◌, ◌⊎◌, List, ◌++◌, length, take, IfSome, Some, None, Option, sym, ap, ◌∙◌, subst, inl, inr, arith, length-append}
use Rattle.std.proofs.KnownBytes.{Consumes-trans}
use Rattle.std.specs.Io.KnownBytes.{Consumes, IsAtEnd}
use Rattle.std.proofs.lemmas.List.{append-nil, length-take-le, take_all, take_at}
use Rattle.std.proofs.lemmas.Bool.{cases_lt}
use Rattle.sheets.specs.Reading.{most_bytes, enough, read_all}
use Rattle.sheets.specs.Taking.{Gains, TakesUpTo}
use Rattle.sheets.proofs.Accepts.{read_long}

enough_reads : (xs : List ℕ) → read_all (enough xs) ≡ read_all xs
enough_reads xs = go (cases_lt most_bytes (length xs))
  where
    go : (most_bytes < length xs) ⊎ (length xs ≤ most_bytes) → read_all (enough xs) ≡ read_all xs
    go (inl long) =
        let over = length-take-le (most_bytes + 1) xs (omega arith) in
        read_long (enough xs) (omega arith) ∙ sym (read_long xs long)
    go (inr short) = ap read_all (take_all (most_bytes + 1) xs (omega arith))

pub taken_reads : (o : Option (List ℕ)) (ys : List ℕ) → IfSome o (λ xs. ys ≡ enough xs) → IfSome o (λ xs. read_all ys ≡ read_all xs)
taken_reads None ys h = tt
taken_reads (Some xs) ys h = ap read_all h ∙ enough_reads xs

-- What is taken until a reader is at its end, or until it is enough.
pub taken_enough : (old new : Option (List ℕ)) (bytes : List ℕ) → Consumes old new bytes → length bytes ≤ most_bytes + 1
    → IsAtEnd new ⊎ (most_bytes + 1 ≤ length bytes) → IfSome old (λ xs. bytes ≡ enough xs)
taken_enough None new bytes took short stop = tt
taken_enough (Some xs) None bytes took short stop = absurd took
taken_enough (Some xs) (Some ys) bytes took short (inl end) =
    let all : xs ≡ bytes = took ∙ ap (λ t. bytes ++ t) end ∙ append-nil bytes in
    sym (ap (take (most_bytes + 1)) all ∙ take_all (most_bytes + 1) bytes short)
taken_enough (Some xs) (Some ys) bytes took short (inr full) =
    sym (ap (take (most_bytes + 1)) took ∙ take_at bytes ys (most_bytes + 1) (omega arith))

pub gained : (old mid new : Option (List ℕ)) (before after : List ℕ) → Consumes old mid before → Gains mid new before after → Consumes old new after
gained old mid new before after first (more, second, e) =
    subst (Consumes old new) (sym e) (Consumes-trans old mid new before more first second)

pub taken_on : (old mid new : Option (List ℕ)) (before : List ℕ) (most : ℕ) → Consumes old mid before → length before ≤ most → TakesUpTo (most - length before) mid new → TakesUpTo most old new
taken_on old mid new before most first short (more, second, few) =
    (before ++ more, Consumes-trans old mid new before more first second, omega (arith, length-append before more))
