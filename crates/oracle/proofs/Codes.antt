-- Counting in lists of codes.
use Rattle.std.proofs.Common.{◌≡◌, ℕ, ◌+◌, Bool, true, false, cond, ◌⊎◌, List, [], ◌∷◌, ◌++◌, length, refl, ap, inl, inr, arith}
use Rattle.std.proofs.lemmas.Slice.Eq.{bytes_eq-Decides}
use Rattle.std.proofs.lemmas.Bool.{both_ways}
use Rattle.std.specs.List.{AllByRecursion}
use Rattle.std.specs.Str.{bytes_eq}
use Rattle.oracle.specs.Counting.{same, times, total}
use Rattle.oracle.specs.Setup.{Code}

-- two codes are the same, or they are not
abbrev pub SameCases : Code → Code → Type 0
SameCases x y = ((x ≡ y) × (same x y ≡ 1)) ⊎ ((x ≡ y → ⊥) × (same x y ≡ 0))

pub bytes_same : (x y : Code) → x ≡ y → bytes_eq x y ≡ true
bytes_same x y e = (bytes_eq-Decides x y).1 e

pub bytes_apart : (x y : Code) → (x ≡ y → ⊥) → bytes_eq x y ≡ false
bytes_apart x y ne = go (bytes_eq x y) refl
  where
    go : (b : Bool) → bytes_eq x y ≡ b → bytes_eq x y ≡ false
    go true e = absurd (ne ((bytes_eq-Decides x y).0 e))
    go false e = e

pub same_cases : (x y : Code) → SameCases x y
unfolding same
same_cases x y = go (bytes_eq x y) refl
  where
    go : (b : Bool) → bytes_eq x y ≡ b → SameCases x y
    go true e = inl ((bytes_eq-Decides x y).0 e, ap (λ b. cond b 1 0) e)
    go false e = inr (λ p. both_ways (bytes_eq x y) e ((bytes_eq-Decides x y).1 p), ap (λ b. cond b 1 0) e)

pub same_self : (x : Code) → same x x ≡ 1
unfolding same
same_self x = ap (λ b. cond b 1 0) ((bytes_eq-Decides x x).1 refl)

pub same_apart : (x y : Code) → (x ≡ y → ⊥) → same x y ≡ 0
same_apart x y ne = go (same_cases x y)
  where
    go : SameCases x y → same x y ≡ 0
    go (inl p) = absurd (ne p.0)
    go (inr p) = p.1

pub total_append : (f : Code → ℕ) (xs ys : List Code) → total f (xs ++ ys) ≡ total f xs + total f ys
unfolding total
total_append f [] ys = omega arith
total_append f (z ∷ xs) ys = let h = total_append f xs ys in omega arith

pub total_ones : (xs : List Code) → total (λ _. 1) xs ≡ length xs
unfolding total
total_ones [] = refl
total_ones (x ∷ xs) = let h = total_ones xs in omega arith

-- what is not among those of a list does not stand in it
pub times_none : (P : Code → Type 0) (x : Code) (xs : List Code) → AllByRecursion P xs → (P x → ⊥) → times x xs ≡ 0
unfolding total
times_none P x [] a n = refl
times_none P x (y ∷ ys) a n = go (same_cases x y) (times_none P x ys a.1 n)
  where
    go : SameCases x y → times x ys ≡ 0 → times x (y ∷ ys) ≡ 0
    go (inl p) h = absurd (n (rw p.0 a.0))
    go (inr p) h = omega arith
