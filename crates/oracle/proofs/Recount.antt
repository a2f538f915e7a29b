-- Two lists that hold each code equally often have equal sums, whatever their order.
use Rattle.std.proofs.Common.{◌≡◌, ℕ, ◌+◌, ◌≤◌, cond, List, [], ◌∷◌, refl, ap, inl, inr, arith}
use Rattle.std.specs.Str.{bytes_eq}
use Rattle.oracle.proofs.Codes.{SameCases, same_cases, same_self, bytes_same, bytes_apart}
use Rattle.oracle.specs.Counting.{same, times, total}
use Rattle.oracle.specs.Setup.{Code}

-- a list with x taken out once
without : Code → List Code → List Code
without x [] = []
without x (y ∷ ys) = cond (bytes_eq x y) ys (y ∷ without x ys)

total_without : (f : Code → ℕ) (x : Code) (ys : List Code) → 1 ≤ times x ys → total f ys ≡ f x + total f (without x ys)
unfolding total without
total_without f x [] h = absurd (omega arith)
total_without f x (y ∷ ys) h = go (same_cases x y) (total_without f x ys)
  where
    go : SameCases x y → (1 ≤ times x ys → total f ys ≡ f x + total f (without x ys)) → total f (y ∷ ys) ≡ f x + total f (without x (y ∷ ys))
    go (inl p) ih = rw (bytes_same x y p.0) (omega (arith, ap f p.0))
    go (inr p) ih = rw (bytes_apart x y p.0) (let k = ih (omega arith) in omega arith)

pub recounted : (f : Code → ℕ) (xs ys : List Code) → ((z : Code) → times z xs ≡ times z ys) → total f xs ≡ total f ys
unfolding total
recounted f [] [] h = refl
recounted f [] (y ∷ ys) h = absurd (omega (arith, h y, same_self y))
recounted f (x ∷ xs) ys h =
    let stands : 1 ≤ times x ys = omega (arith, h x, same_self x) in
    let k =
    recounted f xs (without x ys)
    (λ z. let a = total_without (same z) x ys stands in omega (arith, h z)) in
    omega (arith, total_without f x ys stands)
