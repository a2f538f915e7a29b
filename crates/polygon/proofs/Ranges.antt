-- The tests of all numbers of a range.
use Rattle.std.proofs.Common.{◌≡◌, ℕ, zero, suc, ◌+◌, ◌<◌, ◌≤◌, Bool, true, false, ◌&&◌, ◌⊎◌, List, get_or, sym, refl, ap, ◌∙◌, subst, inl, inr, zero-add, arith}
use denote.Param.Members.{Mut, Called}
use Rattle.std.proofs.lemmas.Bool.{and_parts, both_ways, cases_eq}
use Rattle.std.specs.Array.{IsFromFnResult, IsFromFnResultFrom}
use Rattle.std.specs.List.{range_with_len, list_all}
use Rattle.triangulations.proofs.Searches.{every_each, every_from}
use Rattle.triangulations.specs.Search.{every}

all_each : (f : ℕ → Bool) (a k : ℕ) → list_all f (range_with_len a k) ≡ true → (i : ℕ) → i < k → f (a + i) ≡ true
all_each f a zero t i l = absurd (omega arith)
all_each f a (suc k) t zero l =
    let e : a + 0 ≡ a = omega arith in
    ap f e ∙ (and_parts (f a) (list_all f (range_with_len (a + 1) k)) t).0
all_each f a (suc k) t (suc i) l =
    let e : a + suc i ≡ a + 1 + i = omega arith in
    ap f e ∙ all_each f (a + 1) k (and_parts (f a) (list_all f (range_with_len (a + 1) k)) t).1 i (omega arith)

all_from : (f : ℕ → Bool) (a k : ℕ) → ((i : ℕ) → i < k → f (a + i) ≡ true) → list_all f (range_with_len a k) ≡ true
all_from f a zero h = refl
all_from f a (suc k) h =
    let e : a ≡ a + 0 = omega arith in
    let first : f a ≡ true = ap f e ∙ h 0 (omega arith) in
    let each : (i : ℕ) → i < k → f (a + 1 + i) ≡ true = λ i l. let n : a + 1 + i ≡ a + suc i = omega arith in ap f n ∙ h (suc i) (omega arith) in
    ap (λ (b : Bool). b && list_all f (range_with_len (a + 1) k)) first ∙ all_from f (a + 1) k each

pub all_every : (f : ℕ → Bool) (a k : ℕ) → list_all f (range_with_len a k) ≡ every k (λ i. f (a + i))
all_every f a k = go (list_all f (range_with_len a k)) refl (every k (λ i. f (a + i))) refl
  where
    go : (b : Bool) → list_all f (range_with_len a k) ≡ b → (d : Bool) → every k (λ i. f (a + i)) ≡ d
        → list_all f (range_with_len a k) ≡ every k (λ i. f (a + i))
    go true t d e = t ∙ sym (every_from k (λ i. f (a + i)) (all_each f a k t))
    go false t true e = absurd (both_ways _ t (all_from f a k (every_each k (λ i. f (a + i)) e)))
    go false t false e = t ∙ sym e

pub every_zero : (f : ℕ → Bool) (k : ℕ) → every k (λ i. f (0 + i)) ≡ every k f
every_zero f k = ap (every k) (λ j i. f (zero-add i j))

-- an array that is made of the answers of a closure that changes nothing
module _ {F : Type 0} (g : Mut F (ℕ × Unit {0}) ℕ) (f : F) (P : ℕ → ℕ → Type 0) (keeps : (x y : ℕ) (q : F) → Called g f (x, tt) y q → (q ≡ f) × P x y) (ys : List ℕ) where
  made-at : (i m : ℕ) (p : F) → p ≡ f → IsFromFnResultFrom g p ys i m → (k : ℕ) → i ≤ k → k < i + m → P k (get_or ys k 0)
  made-at i zero p s c k l u = absurd (omega arith)
  made-at i (suc m) p s c k l u = go (cases_eq k i) (λ l' u'. made-at (i + 1) m c.0 told.0 c.4 k l' u')
    where
      told : (c.0 ≡ f) × P i c.1
      told = keeps i c.1 c.0 (subst (λ (x : F). Called g x (i, tt) c.1 c.0) s c.3)

      go : (k ≡ i) ⊎ (k ≡ i → ⊥) → (i + 1 ≤ k → k < i + 1 + m → P k (get_or ys k 0)) → P k (get_or ys k 0)
      go (inl q) rest = subst (λ (x : ℕ). P x (get_or ys x 0)) (sym q) (subst (P i) (sym (c.2.1 0)) told.1)
      go (inr q) rest = rest (omega arith) (omega arith)

  pub made_each : (n : ℕ) → IsFromFnResult g f ys n → (k : ℕ) → k < n → P k (get_or ys k 0)
  made_each n made k l = made-at 0 n f refl made.each k (omega arith) (omega arith)
