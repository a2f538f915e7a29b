-- What the searches find.
use Rattle.std.proofs.Common.{◌≡◌, ℕ, zero, suc, ◌+◌, ◌<◌, Bool, true, false, ◌⊎◌, Some, None, Option, sym, refl, ap, ◌∙◌, inl, inr, arith}
use Rattle.std.proofs.lemmas.Bool.{cases_order, both_ways}
use Rattle.masks.proofs.Pick.{least_some, least_is, least_found}
use Rattle.masks.specs.Pick.{least}
use Rattle.triangulations.specs.Search.{every}

-- ---- every

pub every_each : (k : ℕ) (f : ℕ → Bool) → every k f ≡ true → (i : ℕ) → i < k → f i ≡ true
unfolding every
every_each zero f t i l = absurd (omega arith)
every_each (suc k) f t i l = go (f k) refl (every_each k f)
  where
    here : f k ≡ true → ((j : ℕ) → j < k → f j ≡ true) → (i ≡ k) ⊎ ((i < k) ⊎ (k < i)) → f i ≡ true
    here e rest (inl s) = ap f s ∙ e
    here e rest (inr (inl s)) = rest i s
    here e rest (inr (inr s)) = absurd (omega arith)

    turn : (b : Bool) → f k ≡ b → every (suc k) f ≡ (elim b [ true ↦ every k f | false ↦ false ])
    turn b e = ap (λ (x : Bool). elim x [ true ↦ every k f | false ↦ false ]) e

    go : (b : Bool) → f k ≡ b → (every k f ≡ true → (j : ℕ) → j < k → f j ≡ true) → f i ≡ true
    go true e rest = here e (rest (sym (turn true e) ∙ t)) (cases_order i k)
    go false e rest = absurd (both_ways (every (suc k) f) (turn false e) t)

pub every_from : (k : ℕ) (f : ℕ → Bool) → ((i : ℕ) → i < k → f i ≡ true) → every k f ≡ true
unfolding every
every_from zero f h = refl
every_from (suc k) f h =
    ap (λ (x : Bool). elim x [ true ↦ every k f | false ↦ false ]) (h k (omega arith))
    ∙ every_from k f (λ i l. h i (omega arith))

pub every_none : (f : ℕ → Bool) → every 0 f ≡ true
unfolding every
every_none f = refl

pub every_more : (k : ℕ) (f : ℕ → Bool) → every k f ≡ true → f k ≡ true → every (k + 1) f ≡ true
every_more k f t e = every_from (k + 1) f (λ i l. go i l (cases_order i k))
  where
    go : (i : ℕ) → i < k + 1 → (i ≡ k) ⊎ ((i < k) ⊎ (k < i)) → f i ≡ true
    go i l (inl s) = ap f s ∙ e
    go i l (inr (inl s)) = every_each k f t i s
    go i l (inr (inr s)) = absurd (omega arith)

pub every_not : (k : ℕ) (f : ℕ → Bool) (i : ℕ) → i < k → f i ≡ false → every k f ≡ false
every_not k f i l e = go (every k f) refl
  where
    go : (b : Bool) → every k f ≡ b → every k f ≡ false
    go true t = absurd (both_ways (f i) e (every_each k f t i l))
    go false t = t

-- ---- options

pub some_is : (o : Option ℕ) (i j : ℕ) → o ≡ Some i → o ≡ Some j → i ≡ j
some_is o i j e f = cc

pub some_not_none : (o : Option ℕ) (i : ℕ) → o ≡ Some i → o ≡ None → ⊥
some_not_none o i e f = let z : ◌≡◌ {A = ℕ} 0 1 = cc in omega arith

-- ---- the least

-- the least number below k that passes is found, or none passes
pub record Found (k : ℕ) (f : ℕ → Bool) : Type 0 where
  pub place : ℕ
  pub below : place < k
  pub passes : f place ≡ true
  pub is : least f k ≡ Some place

pub record Nowhere (k : ℕ) (f : ℕ → Bool) : Type 0 where
  pub none : (m : ℕ) → m < k → f m ≡ false
  pub is : least f k ≡ None

pub least_cases : (k : ℕ) (f : ℕ → Bool) → Found k f ⊎ Nowhere k f
least_cases k f = go (least f k) refl
  where
    fails : least f k ≡ None → (m : ℕ) → m < k → (b : Bool) → f m ≡ b → f m ≡ false
    fails e m l true p = let (i, q) = least_found f k m l p in absurd (some_not_none (least f k) i q e)
    fails e m l false p = p

    go : (o : Option ℕ) → least f k ≡ o → Found k f ⊎ Nowhere k f
    go None e = inr (record { none = λ m l. fails e m l (f m) refl; is = e })
    go (Some i) e =
        let x = least_some f k i e in
        inl (record { place = i; below = x.0; passes = x.1; is = e })

-- the one that passes is found
pub least_only : (k : ℕ) (f : ℕ → Bool) (j : ℕ) → j < k → f j ≡ true → ((m : ℕ) → m < k → f m ≡ true → m ≡ j) → least f k ≡ Some j
least_only k f j l e h = least_is f k j l (λ m q. other m q (f m) refl) e
  where
    other : (m : ℕ) → m < j → (b : Bool) → f m ≡ b → f m ≡ false
    other m q true p = absurd (omega (arith, h m (omega arith) p))
    other m q false p = p

-- a test passes at no number below k, or at a first one
first_passing : (k : ℕ) (f : ℕ → Bool)
    → ((m : ℕ) → m < k → f m ≡ false) ⊎ ((p : ℕ) × (p < k) × (f p ≡ true) × ((m : ℕ) → m < p → f m ≡ false))
first_passing zero f = inl (λ m l. absurd (omega arith))
first_passing (suc k) f = go (first_passing k f) (f k) refl
  where
    go : ((m : ℕ) → m < k → f m ≡ false) ⊎ ((p : ℕ) × (p < k) × (f p ≡ true) × ((m : ℕ) → m < p → f m ≡ false)) → (b : Bool) → f k ≡ b
        → ((m : ℕ) → m < suc k → f m ≡ false) ⊎ ((p : ℕ) × (p < suc k) × (f p ≡ true) × ((m : ℕ) → m < p → f m ≡ false))
    go (inr x) b e = inr (x.0, omega (arith, x.1), x.2, x.3)
    go (inl none) true e = inr (k, omega arith, e, none)
    go (inl none) false e = inl (λ m l. upto m l (cases_order m k))
      where
        upto : (m : ℕ) → m < suc k → (m ≡ k) ⊎ ((m < k) ⊎ (k < m)) → f m ≡ false
        upto m l (inl s) = ap f s ∙ e
        upto m l (inr (inl s)) = none m s
        upto m l (inr (inr s)) = absurd (omega arith)

-- none before the least passes
pub least_first : (k : ℕ) (f : ℕ → Bool) (i : ℕ) → least f k ≡ Some i → (m : ℕ) → m < i → f m ≡ false
least_first k f i e m l = go (first_passing i f)
  where
    go : ((j : ℕ) → j < i → f j ≡ false) ⊎ ((p : ℕ) × (p < i) × (f p ≡ true) × ((j : ℕ) → j < p → f j ≡ false)) → f m ≡ false
    go (inl none) = none m l
    go (inr x) =
        let under = (least_some f k i e).0 in
        let same = some_is (least f k) i x.0 e (least_is f k x.0 (omega (arith, x.1)) x.3 x.2) in
        absurd (omega (arith, x.1))
