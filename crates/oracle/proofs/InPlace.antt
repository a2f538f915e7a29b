-- Places in any list of codes.
use Rattle.std.proofs.Common.{◌≡◌, ℕ, zero, suc, ◌+◌, ◌<◌, ◌≤◌, cond, List, [], ◌∷◌, ◌++◌, length, sym, refl, ap, ◌∙◌, subst, inl, inr, arith}
use Rattle.std.specs.List.{AllByRecursion}
use Rattle.oracle.proofs.Codes.{SameCases, same_cases, same_self, bytes_same, bytes_apart}
use Rattle.oracle.specs.Counting.{same, times, total}
use Rattle.oracle.specs.Places.{first_of, at_place, place_in}
use Rattle.oracle.specs.Setup.{Code}
use Rattle.oracle.specs.Walk.{Spot, on, past}

pub place_here : (x y : Code) (ys : List Code) → x ≡ y → place_in x (y ∷ ys) ≡ 1
unfolding place_in
place_here x y ys e = ap (λ b. cond b 1 (suc (place_in x ys))) (bytes_same x y e)

pub place_later : (x y : Code) (ys : List Code) → (x ≡ y → ⊥) → place_in x (y ∷ ys) ≡ suc (place_in x ys)
unfolding place_in
place_later x y ys ne = ap (λ b. cond b 1 (suc (place_in x ys))) (bytes_apart x y ne)

pub place_positive : (x : Code) (xs : List Code) → 1 ≤ place_in x xs
unfolding place_in
place_positive x [] = omega arith
place_positive x (y ∷ ys) = go (same_cases x y)
  where
    go : SameCases x y → 1 ≤ place_in x (y ∷ ys)
    go (inl p) = omega (arith, place_here x y ys p.0)
    go (inr p) = omega (arith, place_later x y ys p.0)

pub place_within : (x : Code) (xs : List Code) → 1 ≤ times x xs → place_in x xs ≤ length xs
unfolding total
place_within x [] h = absurd (omega arith)
place_within x (y ∷ ys) h = go (same_cases x y) (place_within x ys)
  where
    go : SameCases x y → (1 ≤ times x ys → place_in x ys ≤ length ys) → place_in x (y ∷ ys) ≤ suc (length ys)
    go (inl p) ih = omega (arith, place_here x y ys p.0)
    go (inr p) ih = let k = ih (omega arith) in omega (arith, place_later x y ys p.0)

-- place 1 + p of a list is place p of what follows its first
pub at_later : (y : Code) (ys : List Code) (p : ℕ) → 1 ≤ p → at_place (y ∷ ys) (suc p) ≡ at_place ys p
unfolding at_place
at_later y ys zero h = absurd (omega arith)
at_later y ys (suc p) h = refl

pub at_its_place : (x : Code) (xs : List Code) → 1 ≤ times x xs → at_place xs (place_in x xs) ≡ on x
unfolding total at_place first_of
at_its_place x [] h = absurd (omega arith)
at_its_place x (y ∷ ys) h = go (same_cases x y) (at_its_place x ys)
  where
    go : SameCases x y → (1 ≤ times x ys → at_place ys (place_in x ys) ≡ on x) → at_place (y ∷ ys) (place_in x (y ∷ ys)) ≡ on x
    go (inl p) ih = rw (place_here x y ys p.0) (ap on (sym p.0))
    go (inr p) ih =
        rw (place_later x y ys p.0) (at_later y ys (place_in x ys) (place_positive x ys) ∙ ih (omega arith))

at_none : (p : ℕ) → at_place [] p ≡ past
unfolding at_place first_of
at_none zero = refl
at_none (suc zero) = refl
at_none (suc (suc p)) = refl

not_past : (x : Code) (t : Spot) → t ≡ past → t ≡ on x → ⊥
not_past x t e f = let z : ◌≡◌ {A = ℕ} 0 1 = cc in omega arith

-- what stands at a place has what all of the list have
pub at_all : (P : Code → Type 0) (x : Code) (xs : List Code) (p : ℕ) → AllByRecursion P xs → at_place xs p ≡ on x → P x
unfolding at_place first_of
at_all P x [] p a e = absurd (not_past x (at_place [] p) (at_none p) e)
at_all P x (y ∷ ys) zero a e = absurd (not_past x past refl e)
at_all P x (y ∷ ys) (suc zero) a e = let f : y ≡ x = cc in subst P f a.0
at_all P x (y ∷ ys) (suc (suc p)) a e = at_all P x ys (suc p) a.1 e

pub at_times : (x : Code) (xs : List Code) (p : ℕ) → at_place xs p ≡ on x → 1 ≤ times x xs
unfolding at_place first_of total
at_times x [] p e = absurd (not_past x (at_place [] p) (at_none p) e)
at_times x (y ∷ ys) zero e = absurd (not_past x past refl e)
at_times x (y ∷ ys) (suc zero) e =
    let f : y ≡ x = cc in
    omega (arith, ap (same x) f, same_self x)
at_times x (y ∷ ys) (suc (suc p)) e = let h = at_times x ys (suc p) e in omega arith

pub place_of_at : (x : Code) (xs : List Code) (p : ℕ) → times x xs ≤ 1 → at_place xs p ≡ on x → place_in x xs ≡ p
unfolding at_place first_of total
place_of_at x [] p h e = absurd (not_past x (at_place [] p) (at_none p) e)
place_of_at x (y ∷ ys) zero h e = absurd (not_past x past refl e)
place_of_at x (y ∷ ys) (suc zero) h e = let f : x ≡ y = cc in place_here x y ys f
place_of_at x (y ∷ ys) (suc (suc p)) h e =
    go (same_cases x y) (λ k. place_of_at x ys (suc p) k e) (at_times x ys (suc p) e)
  where
    go : SameCases x y → (times x ys ≤ 1 → place_in x ys ≡ suc p) → 1 ≤ times x ys → place_in x (y ∷ ys) ≡ suc (suc p)
    go (inl q) ih k = absurd (omega arith)
    go (inr q) ih k = place_later x y ys q.0 ∙ ap suc (ih (omega arith))

pub at_within : (xs : List Code) (p : ℕ) → 1 ≤ p → p ≤ length xs → (x : Code) × (at_place xs p ≡ on x)
unfolding at_place first_of
at_within xs zero a b = absurd (omega arith)
at_within [] (suc p) a b = absurd (omega arith)
at_within (y ∷ ys) (suc zero) a b = (y, refl)
at_within (y ∷ ys) (suc (suc p)) a b = at_within ys (suc p) (omega arith) (omega arith)

pub at_beyond : (xs : List Code) (p : ℕ) → length xs < p → at_place xs p ≡ past
unfolding at_place first_of
at_beyond xs zero a = refl
at_beyond [] (suc p) a = at_none (suc p)
at_beyond (y ∷ ys) (suc zero) a = absurd (omega arith)
at_beyond (y ∷ ys) (suc (suc p)) a = at_beyond ys (suc p) (omega arith)

pub place_in_front : (x : Code) (xs ys : List Code) → 1 ≤ times x xs → place_in x (xs ++ ys) ≡ place_in x xs
unfolding total
place_in_front x [] ys h = absurd (omega arith)
place_in_front x (z ∷ xs) ys h = go (same_cases x z) (place_in_front x xs ys)
  where
    go : SameCases x z → (1 ≤ times x xs → place_in x (xs ++ ys) ≡ place_in x xs) → place_in x (z ∷ (xs ++ ys)) ≡ place_in x (z ∷ xs)
    go (inl p) ih = place_here x z (xs ++ ys) p.0 ∙ sym (place_here x z xs p.0)
    go (inr p) ih =
        place_later x z (xs ++ ys) p.0 ∙ ap suc (ih (omega arith)) ∙ sym (place_later x z xs p.0)

pub place_behind : (x : Code) (xs ys : List Code) → times x xs ≡ 0 → place_in x (xs ++ ys) ≡ length xs + place_in x ys
unfolding total
place_behind x [] ys h = omega arith
place_behind x (z ∷ xs) ys h = go (same_cases x z) (place_behind x xs ys)
  where
    go : SameCases x z → (times x xs ≡ 0 → place_in x (xs ++ ys) ≡ length xs + place_in x ys) → place_in x (z ∷ (xs ++ ys)) ≡ suc (length xs) + place_in x ys
    go (inl p) ih = absurd (omega arith)
    go (inr p) ih = let k = ih (omega arith) in omega (arith, place_later x z (xs ++ ys) p.0)
