-- Bytes that are parted at the first of a kind.
use Rattle.std.proofs.Common.{◌≡◌, ℕ, suc, ◌+◌, ◌-◌, ◌<◌, ◌≤◌, Bool, true, false, cond, not, eqb, ltb, ◌≢◌, List, [], ◌∷◌, ◌++◌, length, take, drop, Some, None, Option, sym, refl, ap, ◌∙◌, subst, arith}
use Rattle.std.specs.List.{prefix_len, AllByRecursion}
use Rattle.std.proofs.lemmas.List.{take_rest}
use Rattle.std.proofs.lemmas.Bool.{ne_eqb, eqb-true, eqb-false, eq-eqb, ltb-true, ltb-false, cond-true, cond-false}
use Rattle.protocols.specs.Reading.{behind, parted, place_of}
use Rattle.items.proofs.Decimal.{clash}

abbrev Parts : Type 0
Parts = Option (List ℕ × List ℕ)

-- two pairs that are equal in both parts
same_parts : (p q : List ℕ × List ℕ) → ◌≡◌ {A = Parts} (Some p) (Some q) → (p.0 ≡ q.0) × (p.1 ≡ q.1)
same_parts p q e = let same : p ≡ q = cc in (ap (λ (x : List ℕ × List ℕ). x.0) same, ap (λ (x : List ℕ × List ℕ). x.1) same)

by_byte : ℕ → List ℕ → Parts → Bool → Parts
by_byte b bs o t = elim t [ true ↦ Some ([], bs) | false ↦ behind b o ]

pub parted_here : (d b : ℕ) (bs : List ℕ) → eqb b d ≡ true → parted d (b ∷ bs) ≡ Some ([], bs)
unfolding parted by_byte
parted_here d b bs e = ap (by_byte b bs (parted d bs)) e

pub parted_on : (d b : ℕ) (bs : List ℕ) → eqb b d ≡ false → parted d (b ∷ bs) ≡ behind b (parted d bs)
unfolding parted by_byte
parted_on d b bs e = ap (by_byte b bs (parted d bs)) e

-- the two parts with the byte between them are the whole
pub parted_is : (d : ℕ) (l a r : List ℕ) → parted d l ≡ Some (a, r) → l ≡ a ++ (d ∷ r)
unfolding parted
parted_is d [] a r e = clash (a, r) e
parted_is d (b ∷ bs) a r e = go (eqb b d) refl (parted d bs) refl (parted_is d bs)
  where
    go : (t : Bool) → eqb b d ≡ t → (o : Parts) → parted d bs ≡ o
        → ((x y : List ℕ) → parted d bs ≡ Some (x, y) → bs ≡ x ++ (d ∷ y)) → b ∷ bs ≡ a ++ (d ∷ r)
    go true f o g ih =
        let s = same_parts ([], bs) (a, r) (sym (parted_here d b bs f) ∙ e) in
        ap (λ c. c ∷ bs) (eqb-true b d f) ∙ ap (λ ys. d ∷ ys) s.1 ∙ ap (λ xs. xs ++ (d ∷ r)) s.0
    go false f None g ih = clash (a, r) (sym (parted_on d b bs f ∙ ap (behind b) g) ∙ e)
    go false f (Some p) g ih =
        let s = same_parts (b ∷ p.0, p.1) (a, r) (sym (parted_on d b bs f ∙ ap (behind b) g) ∙ e) in
        ap (λ ys. b ∷ ys) (ih p.0 p.1 g) ∙ ap (λ ys. b ∷ (p.0 ++ (d ∷ ys))) s.1 ∙ ap (λ xs. xs ++ (d ∷ r)) s.0

-- what has no such byte is cut off whole
pub is_parted : (d : ℕ) (a r : List ℕ) → AllByRecursion (λ b. b ≢ d) a → parted d (a ++ (d ∷ r)) ≡ Some (a, r)
is_parted d [] r h = parted_here d d r (eq-eqb d d refl)
is_parted d (b ∷ a) r h =
    parted_on d b (a ++ (d ∷ r)) (ne_eqb b d h.0) ∙ ap (behind b) (is_parted d a r h.1)

-- what stands before the byte has none, and neither has what is not parted
pub parted_front : (d : ℕ) (l a r : List ℕ) → parted d l ≡ Some (a, r) → AllByRecursion (λ b. b ≢ d) a
unfolding parted
parted_front d [] a r e = clash (a, r) e
parted_front d (b ∷ bs) a r e = go (eqb b d) refl (parted d bs) refl (parted_front d bs)
  where
    go : (t : Bool) → eqb b d ≡ t → (o : Parts) → parted d bs ≡ o
        → ((x y : List ℕ) → parted d bs ≡ Some (x, y) → AllByRecursion (λ c. c ≢ d) x) → AllByRecursion (λ c. c ≢ d) a
    go true f o g ih =
        let s = same_parts ([], bs) (a, r) (sym (parted_here d b bs f) ∙ e) in
        subst (λ (xs : List ℕ). AllByRecursion (λ c. c ≢ d) xs) s.0 tt
    go false f None g ih = clash (a, r) (sym (parted_on d b bs f ∙ ap (behind b) g) ∙ e)
    go false f (Some p) g ih =
        let s = same_parts (b ∷ p.0, p.1) (a, r) (sym (parted_on d b bs f ∙ ap (behind b) g) ∙ e) in
        subst (λ (xs : List ℕ). AllByRecursion (λ c. c ≢ d) xs) s.0 (eqb-false b d f, ih p.0 p.1 g)

pub parted_none : (d : ℕ) (l : List ℕ) → parted d l ≡ None → AllByRecursion (λ b. b ≢ d) l
parted_none d [] e = tt
parted_none d (b ∷ bs) e = go (eqb b d) refl (parted d bs) refl (parted_none d bs)
  where
    go : (t : Bool) → eqb b d ≡ t → (o : Parts) → parted d bs ≡ o → (parted d bs ≡ None → AllByRecursion (λ c. c ≢ d) bs)
        → AllByRecursion (λ c. c ≢ d) (b ∷ bs)
    go true f o g ih = clash ([], bs) (sym e ∙ parted_here d b bs f)
    go false f None g ih = (eqb-false b d f, ih g)
    go false f (Some p) g ih = clash (b ∷ p.0, p.1) (sym e ∙ (parted_on d b bs f ∙ ap (behind b) g))

-- how many bytes stand before the first d
abbrev pub run : ℕ → List ℕ → ℕ
run d bs = prefix_len (λ b. not (eqb b d)) bs

run_here : (d b : ℕ) (bs : List ℕ) → eqb b d ≡ true → run d (b ∷ bs) ≡ 0
run_here d b bs e = ap (λ t. cond (not t) (1 + run d bs) 0) e

run_on : (d b : ℕ) (bs : List ℕ) → eqb b d ≡ false → run d (b ∷ bs) ≡ 1 + run d bs
run_on d b bs e = ap (λ t. cond (not t) (1 + run d bs) 0) e

parted_run : (d : ℕ) (bs : List ℕ) → run d bs < length bs → parted d bs ≡ Some (take (run d bs) bs, drop (run d bs + 1) bs)
parted_run d [] h = absurd (omega arith)
parted_run d (b ∷ bs) h = go (eqb b d) refl (parted_run d bs)
  where
    go : (t : Bool) → eqb b d ≡ t → (run d bs < length bs → parted d bs ≡ Some (take (run d bs) bs, drop (run d bs + 1) bs))
        → parted d (b ∷ bs) ≡ Some (take (run d (b ∷ bs)) (b ∷ bs), drop (run d (b ∷ bs) + 1) (b ∷ bs))
    go true e ih = parted_here d b bs e ∙ ap (λ n. Some (take n (b ∷ bs), drop (n + 1) (b ∷ bs))) (sym (run_here d b bs e))
    go false e ih =
        let n = run_on d b bs e in
        let one : suc (run d bs) ≡ run d (b ∷ bs) = omega arith in
        let two : suc (run d bs + 1) ≡ run d (b ∷ bs) + 1 = omega arith in
        parted_on d b bs e ∙ ap (behind b) (ih (omega arith))
        ∙ ap (λ m. Some (take m (b ∷ bs), drop (suc (run d bs + 1)) (b ∷ bs))) one
        ∙ ap (λ m. Some (take (run d (b ∷ bs)) (b ∷ bs), drop m (b ∷ bs))) two

parted_past : (d : ℕ) (bs : List ℕ) → length bs ≤ run d bs → parted d bs ≡ None
unfolding parted
parted_past d [] h = refl
parted_past d (b ∷ bs) h = go (eqb b d) refl (parted_past d bs)
  where
    go : (t : Bool) → eqb b d ≡ t → (length bs ≤ run d bs → parted d bs ≡ None) → parted d (b ∷ bs) ≡ None
    go true e ih = let n = run_here d b bs e in absurd (omega arith)
    go false e ih = let n = run_on d b bs e in parted_on d b bs e ∙ ap (behind b) (ih (omega arith))

-- parted at the place of the first byte d
pub parted_found : (d n : ℕ) (bs : List ℕ) → Some n ≡ place_of d bs → (n < length bs) × (Some (take n bs, drop (n + 1) bs) ≡ parted d bs)
parted_found d n bs e = go (ltb (run d bs) (length bs)) refl
  where
    go : (t : Bool) → ltb (run d bs) (length bs) ≡ t → (n < length bs) × (Some (take n bs, drop (n + 1) bs) ≡ parted d bs)
    go true f =
        let found : Some n ≡ Some (run d bs) = e ∙ cond-true _ (Some (run d bs)) None f in
        let same : n ≡ run d bs = cc in
        let less = ltb-true (run d bs) (length bs) f in
        (omega arith, ap (λ m. Some (take m bs, drop (m + 1) bs)) same ∙ sym (parted_run d bs less))
    go false f =
        let found : Some n ≡ None = e ∙ cond-false _ (Some (run d bs)) None f in
        clash n (sym found)

pub parted_missing : (d : ℕ) (bs : List ℕ) → None ≡ place_of d bs → None ≡ parted d bs
parted_missing d bs e = go (ltb (run d bs) (length bs)) refl
  where
    go : (t : Bool) → ltb (run d bs) (length bs) ≡ t → None ≡ parted d bs
    go true f = clash (run d bs) (e ∙ cond-true _ (Some (run d bs)) None f)
    go false f = sym (parted_past d bs (ltb-false (run d bs) (length bs) f))

-- the same, of the parts that the code cuts out
pub parted_slices : (d n : ℕ) (bs : List ℕ) → Some n ≡ place_of d bs
    → Some (take n bs, take (length bs - (n + 1)) (drop (n + 1) bs)) ≡ parted d bs
parted_slices d n bs e =
    ap (λ ys. Some (take n bs, ys)) (take_rest bs (n + 1)) ∙ (parted_found d n bs e).1
