-- What the first candidate that passes is.
use Rattle.std.proofs.Common.{◌≡◌, ℕ, zero, suc, ◌<◌, ◌≤◌, ◌≢◌, ◌⊎◌, Bool, true, false, List, [], ◌∷◌, length, get_or, Some, None, Option, sym, refl, ap, ◌∙◌, subst, inl, inr, arith}
use Rattle.std.specs.List.{range_with_len}
use Rattle.std.proofs.lemmas.List.FromFn.{length-range_with_len, get_or-range_with_len}
use Rattle.std.proofs.lemmas.Bool.{both_ways, cases_eq}
use Rattle.masks.specs.Pick.{pick, least}

-- no candidate passes
pub pick_none : (passes : ℕ → Bool) (is : List ℕ) → ((k : ℕ) → k < length is → passes (get_or is k 0) ≡ false) → pick passes is ≡ None
unfolding pick
pick_none passes [] h = refl
pick_none passes (i ∷ rest) h =
    rw (h 0 (omega arith), pick) (pick_none passes rest (λ k l. h (suc k) (omega arith)))

pub pick_lacks : (passes : ℕ → Bool) (is : List ℕ) → pick passes is ≡ None → (k : ℕ) → k < length is → passes (get_or is k 0) ≡ false
unfolding pick
pick_lacks passes [] e k l = absurd (omega arith)
pick_lacks passes (i ∷ rest) e k l = go (passes i) refl e (λ f m. pick_lacks passes rest f m) k l
  where
    go : (b : Bool) → passes i ≡ b → ◌≡◌ {A = Option ℕ} (elim b [ true ↦ Some i | false ↦ pick passes rest ]) None
        → (pick passes rest ≡ None → (m : ℕ) → m < length rest → passes (get_or rest m 0) ≡ false)
        → (k : ℕ) → k < suc (length rest) → passes (get_or (i ∷ rest) k 0) ≡ false
    go true p f later k l = let z : ◌≡◌ {A = ℕ} 0 1 = cc in absurd (omega arith)
    go false p f later zero l = p
    go false p f later (suc m) l = later f m (omega arith)

-- what is found passes, and is a candidate
pub pick_some : (passes : ℕ → Bool) (is : List ℕ) (i : ℕ) → pick passes is ≡ Some i → (k : ℕ) × (k < length is) × (get_or is k 0 ≡ i) × (passes i ≡ true)
unfolding pick
pick_some passes [] i e = let z : ◌≡◌ {A = ℕ} 0 1 = cc in absurd (omega arith)
pick_some passes (j ∷ rest) i e = go (passes j) refl e (λ f. pick_some passes rest i f)
  where
    go : (b : Bool) → passes j ≡ b → elim b [ true ↦ Some j | false ↦ pick passes rest ] ≡ Some i
        → (pick passes rest ≡ Some i → (k : ℕ) × (k < length rest) × (get_or rest k 0 ≡ i) × (passes i ≡ true))
        → (k : ℕ) × (k < suc (length rest)) × (get_or (j ∷ rest) k 0 ≡ i) × (passes i ≡ true)
    go true p f later = let same : j ≡ i = cc in (0, omega arith, same, subst (λ x. passes x ≡ true) same p)
    go false p f later = let x = later f in (suc x.0, omega (arith, x.1), x.2, x.3)

-- the first that passes is found
pub pick_is : (passes : ℕ → Bool) (is : List ℕ) (k : ℕ) → k < length is → ((m : ℕ) → m < k → passes (get_or is m 0) ≡ false) → passes (get_or is k 0) ≡ true
    → pick passes is ≡ Some (get_or is k 0)
unfolding pick
pick_is passes [] k l before here = absurd (omega arith)
pick_is passes (i ∷ rest) zero l before here = rw (here, pick)
pick_is passes (i ∷ rest) (suc k) l before here =
    rw (before 0 (omega arith), pick) (pick_is passes rest k (omega arith) (λ m h. before (suc m) (omega arith)) here)

-- where one passes, one is found
pub pick_found : (passes : ℕ → Bool) (is : List ℕ) (k : ℕ) → k < length is → passes (get_or is k 0) ≡ true → (i : ℕ) × (pick passes is ≡ Some i)
pick_found passes is k l here = go (pick passes is) refl
  where
    go : (o : Option ℕ) → pick passes is ≡ o → (i : ℕ) × (pick passes is ≡ Some i)
    go None e = absurd (both_ways (passes (get_or is k 0)) (pick_lacks passes is e k l) here)
    go (Some i) e = (i, e)

-- ---- the least below n

counted : (n k : ℕ) → k < n → get_or (range_with_len 0 n) k 0 ≡ k
counted n k l = omega (arith, get_or-range_with_len 0 n k 0 l)

pub least_none : (passes : ℕ → Bool) (n : ℕ) → ((i : ℕ) → i < n → passes i ≡ false) → least passes n ≡ None
least_none passes n h =
    pick_none passes (range_with_len 0 n) (λ k l. let m : k < n = omega (arith, length-range_with_len 0 n) in ap passes (counted n k m) ∙ h k m)

pub least_some : (passes : ℕ → Bool) (n i : ℕ) → least passes n ≡ Some i → (i < n) × (passes i ≡ true)
least_some passes n i e =
    let x = pick_some passes (range_with_len 0 n) i e in
    let m : x.0 < n = omega (arith, length-range_with_len 0 n, x.1) in
    (omega (arith, counted n x.0 m, x.2), x.3)

pub least_is : (passes : ℕ → Bool) (n i : ℕ) → i < n → ((j : ℕ) → j < i → passes j ≡ false) → passes i ≡ true → least passes n ≡ Some i
least_is passes n i l before here =
    let m : i < length (range_with_len 0 n) = omega (arith, length-range_with_len 0 n) in
    pick_is passes (range_with_len 0 n) i m (λ j h. ap passes (counted n j (omega arith)) ∙ before j h) (ap passes (counted n i l) ∙ here)
    ∙ ap Some (counted n i l)

pub least_found : (passes : ℕ → Bool) (n i : ℕ) → i < n → passes i ≡ true → (h : ℕ) × (least passes n ≡ Some h)
least_found passes n i l here =
    let m : i < length (range_with_len 0 n) = omega (arith, length-range_with_len 0 n) in
    pick_found passes (range_with_len 0 n) i m (ap passes (counted n i l) ∙ here)

-- no smaller one passes
pub least_before : (passes : ℕ → Bool) (n h : ℕ) → least passes n ≡ Some h → (j : ℕ) → j < h → passes j ≡ false
least_before passes n h e j l = below (suc j) l j (omega arith)
  where
    step : (k : ℕ) → k < h → ((i : ℕ) → i < k → passes i ≡ false) → (b : Bool) → passes k ≡ b → passes k ≡ false
    step k m before true p =
        let same : ◌≡◌ {A = Option ℕ} (Some k) (Some h) = sym (least_is passes n k (omega (arith, (least_some passes n h e).0)) before p) ∙ e in
        let z : k ≡ h = cc in
        absurd (omega arith)
    step k m before false p = p

    below : (k : ℕ) → k ≤ h → (i : ℕ) → i < k → passes i ≡ false
    below zero m i l = absurd (omega arith)
    below (suc k) m i l = at (cases_eq i k) (below k (omega arith))
      where
        at : (i ≡ k) ⊎ (i ≢ k) → ((i : ℕ) → i < k → passes i ≡ false) → passes i ≡ false
        at (inl same) before = ap passes same ∙ step k (omega arith) before (passes k) refl
        at (inr other) before = before i (omega arith)
