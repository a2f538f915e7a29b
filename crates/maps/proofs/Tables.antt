-- What entering a pair does to each digit of the touch table, and so what touching means.
use Rattle.std.proofs.Common.{◌≡◌, ℕ, ◌+◌, ◌-◌, ◌*◌, ◌%◌, ◌^◌, ◌<◌, ◌≤◌, Bool, true, false, leb, ◌≢◌, ◌⊎◌, ◌↔◌, List, [], ◌∷◌, length, get_or, drop, Some, None, Ok, Err, Option, Result, sym, refl, ap, ◌∙◌, inl, inr, mod-lt, add-one, arith, length-set, pow_pos}
use lib.Bits.{bit_and, and_mask}
use lib.Count.{ones}
use Rattle.std.proofs.lemmas.List.{get_or-set_same, get_or-set_other, get_or-replicate, get_or_past, at_drop_more, at_drop_all}
use Rattle.std.proofs.lemmas.Nat.{one_shl}
use Rattle.std.proofs.lemmas.Bool.{cases_eq, cases_lt, cond-true, cond-false, lt-ltb, leb-true, and_parts}
use Rattle.std.proofs.lemmas.Bool.Decides.{nat_tests}
use Rattle.refusals.specs.declared.Refusal.{Refusal}
use Rattle.refusals.specs.declared.Refusal.TheVariants.{OutOfRange}
use Rattle.digits.specs.Bits.{bit, count, with_digit}
use Rattle.digits.proofs.Digits.{or_pow_same, or_pow_other, bit_zero, bit_mod, count_ext, ones_count}
use Rattle.maps.proofs.Results.{same_ok, clash}
use Rattle.maps.specs.Touch.{
  Regions,
  touches,
  Mutual,
  Inside,
  bare,
  begun,
  entered,
  with_pair,
  pair_fault,
  offered,
  can_have,
  after_pairs,
  map_from,
  Names,
  Named,
  Touching,
  pair_total,
}

with_in : (s b : ℕ) → b < 64 → bit (with_digit s b) b ≡ 1
with_in s b h = ap (λ x. bit x b) (cond-true _ _ _ (lt-ltb b 64 h)) ∙ or_pow_same s b

with_off : (s b j : ℕ) → b < 64 → j ≢ b → bit (with_digit s b) j ≡ bit s j
with_off s b j h ne = ap (λ x. bit x j) (cond-true _ _ _ (lt-ltb b 64 h)) ∙ or_pow_other s b j ne

-- one way: the digit entered, the other rows, the other digits
module _ (t : List ℕ) (a b : ℕ) (fa : a < length t) (fb : b < 64) where
  entered-in : touches (entered t a b) a b ≡ 1
  entered-in = ap (λ x. bit x b) (get_or-set_same t a (with_digit (get_or t a 0) b) 0 fa) ∙ with_in (get_or t a 0) b fb

  entered-row : (i j : ℕ) → i ≢ a → touches (entered t a b) i j ≡ touches t i j
  entered-row i j ne = ap (λ x. bit x j) (get_or-set_other t a i (with_digit (get_or t a 0) b) 0 ne)

  entered-digit : (i j : ℕ) → j ≢ b → touches (entered t a b) i j ≡ touches t i j
  entered-digit i j ne = go (cases_eq i a)
    where
      here : touches (entered t a b) a j ≡ touches t a j
      here = ap (λ x. bit x j) (get_or-set_same t a (with_digit (get_or t a 0) b) 0 fa) ∙ with_off (get_or t a 0) b j fb ne

      go : (i ≡ a) ⊎ (i ≡ a → ⊥) → touches (entered t a b) i j ≡ touches t i j
      go (inl e) = ap (λ x. touches (entered t a b) x j) e ∙ here ∙ ap (λ x. touches t x j) (sym e)
      go (inr ne') = entered-row i j ne'

pub length_with_pair : (t : List ℕ) (a b : ℕ) → length (with_pair t a b) ≡ length t
unfolding with_pair
length_with_pair t a b =
    let u = entered t a b in
    length-set u b (with_digit (get_or u b 0) a) ∙ length-set t a (with_digit (get_or t a 0) b)

-- a digit that the pair names is 1, any other is as it was
abbrev pub Changed : List ℕ → List ℕ → ℕ → ℕ → ℕ → ℕ → Type 0
Changed t u a b i j =
    (Names (a, b) i j × (touches u i j ≡ 1)) ⊎ ((Names (a, b) i j → ⊥) × (touches u i j ≡ touches t i j))

module _ (t : List ℕ) (a b : ℕ) (l : length t ≡ 64) (ha : a < 64) (hb : b < 64) (i j : ℕ) where
  fa : a < length t
  fa = omega arith

  fb : b < length (entered t a b)
  fb = let e = length-set t a (with_digit (get_or t a 0) b) in omega arith

  back : i ≡ b → j ≡ a → touches (entered (entered t a b) b a) i j ≡ 1
  back e f =
      ap (λ x. touches (entered (entered t a b) b a) x j) e ∙ ap (λ y. touches (entered (entered t a b) b a) b y) f
      ∙ entered-in (entered t a b) b a fb ha

  there : i ≡ a → j ≡ b → touches (entered t a b) i j ≡ 1
  there e f = ap (λ x. touches (entered t a b) x j) e ∙ ap (λ y. touches (entered t a b) a y) f ∙ entered-in t a b fa hb

  -- where the second entry leaves the digit, the first decides it
  first : touches (entered (entered t a b) b a) i j ≡ touches (entered t a b) i j
      → (Names (a, b) i j → (i ≡ a) × (j ≡ b)) → (i ≡ a) ⊎ (i ≡ a → ⊥) → (j ≡ b) ⊎ (j ≡ b → ⊥)
      → Changed t (entered (entered t a b) b a) a b i j
  first same only (inl e) (inl f) = inl (inl (sym e, sym f), same ∙ there e f)
  first same only (inl e) (inr nf) = inr (λ n. nf (only n).1, same ∙ entered-digit t a b fa hb i j nf)
  first same only (inr ne) y = inr (λ n. ne (only n).0, same ∙ entered-row t a b fa hb i j ne)

  second : (i ≡ b) ⊎ (i ≡ b → ⊥) → (j ≡ a) ⊎ (j ≡ a → ⊥) → (i ≡ a) ⊎ (i ≡ a → ⊥) → (j ≡ b) ⊎ (j ≡ b → ⊥)
      → Changed t (entered (entered t a b) b a) a b i j
  second (inl e) (inl f) x y = inl (inr (sym f, sym e), back e f)
  second (inl e) (inr nf) x y =
      first (entered-digit (entered t a b) b a fb ha i j nf)
      (λ n. elim n [ inl w ↦ (sym w.0, sym w.1) | inr w ↦ absurd (nf (sym w.0)) ]) x y
  second (inr ne) f x y =
      first (entered-row (entered t a b) b a fb ha i j ne)
      (λ n. elim n [ inl w ↦ (sym w.0, sym w.1) | inr w ↦ absurd (ne (sym w.1)) ]) x y

  pub touch_cases : Changed t (with_pair t a b) a b i j
  unfolding with_pair
  touch_cases = second (cases_eq i b) (cases_eq j a) (cases_eq i a) (cases_eq j b)

turned : (p : ℕ × ℕ) (i j : ℕ) → Names p i j → Names p j i
turned p i j (inl w) = inr w
turned p i j (inr w) = inl w

pub mutual_with_pair : (t : List ℕ) (a b : ℕ) → length t ≡ 64 → a < 64 → b < 64 → Mutual t → Mutual (with_pair t a b)
mutual_with_pair t a b l ha hb m i j = go (touch_cases t a b l ha hb i j) (touch_cases t a b l ha hb j i)
  where
    go : Changed t (with_pair t a b) a b i j → Changed t (with_pair t a b) a b j i
        → touches (with_pair t a b) i j ≡ touches (with_pair t a b) j i
    go (inl x) (inl y) = x.1 ∙ sym y.1
    go (inl x) (inr y) = absurd (y.0 (turned (a, b) i j x.0))
    go (inr x) (inl y) = absurd (x.0 (turned (a, b) j i y.0))
    go (inr x) (inr y) = x.1 ∙ m i j ∙ sym y.1

pub inside_with_pair : (n : ℕ) (t : List ℕ) (a b : ℕ) → length t ≡ 64 → n ≤ 64 → a < n → b < n
    → Inside n t → Inside n (with_pair t a b)
inside_with_pair n t a b l few ha hb h i j past = go (touch_cases t a b l (omega arith) (omega arith) i j)
  where
    go : Changed t (with_pair t a b) a b i j → touches (with_pair t a b) i j ≡ 0
    go (inl (inl w, y)) = absurd (omega arith)
    go (inl (inr w, y)) = absurd (omega arith)
    go (inr x) = x.1 ∙ h i j past

pub length_bare : length bare ≡ 64
unfolding bare
length_bare = refl

pub bare_zero : (i j : ℕ) → touches bare i j ≡ 0
unfolding bare
bare_zero i j = go (cases_lt i 64)
  where
    go : (i < 64) ⊎ (64 ≤ i) → touches bare i j ≡ 0
    go (inl h) = ap (λ x. bit x j) (get_or-replicate 64 i 0 0 h) ∙ bit_zero j
    go (inr h) = ap (λ x. bit x j) (get_or_past bare i 0 h) ∙ bit_zero j

pub mutual_bare : Mutual bare
mutual_bare i j = bare_zero i j ∙ sym (bare_zero j i)

pub inside_bare : (n : ℕ) → Inside n bare
inside_bare n i j h = bare_zero i j

-- a pair that is not refused names two different regions
pub pair_good : (n a b : ℕ) → pair_fault n a b ≡ None → (a < n) × (b < n) × (a ≢ b)
pair_good n a b e = grind (arith, nat_tests)

by_offer : Regions → ℕ → ℕ → Option Refusal → Result (Unit {0}) Refusal × Regions
by_offer m a b o =
    elim o [
      | None ↦ (Ok tt, record { count_of = m.count_of; rows = with_pair m.rows a b })
      | Some k ↦ (Err k, m)
    ]

-- one pair more in a list of pairs, taken or refused
abbrev with_one : Regions → ℕ × ℕ → Regions
with_one m p = record { count_of = m.count_of; rows = with_pair m.rows p.0 p.1 }

by_fault : Regions → ℕ × ℕ → List (ℕ × ℕ) → Option Refusal → Result Regions Refusal
by_fault m p ps o = elim o [ None ↦ after_pairs (with_one m p) ps | Some k ↦ Err k ]

pub after_good : (m : Regions) (p : ℕ × ℕ) (ps : List (ℕ × ℕ)) → pair_fault m.count_of p.0 p.1 ≡ None
    → after_pairs m (p ∷ ps) ≡ after_pairs (with_one m p) ps
unfolding after_pairs by_fault
after_good m p ps e = ap (by_fault m p ps) e

pub after_bad : (m : Regions) (p : ℕ × ℕ) (ps : List (ℕ × ℕ)) (k : Refusal)
    → pair_fault m.count_of p.0 p.1 ≡ Some k → after_pairs m (p ∷ ps) ≡ Err k
unfolding after_pairs by_fault
after_bad m p ps k e = ap (by_fault m p ps) e

-- after a list of pairs, two regions touch if they did before or a pair of the list names them
abbrev Grown : Regions → List (ℕ × ℕ) → Regions → ℕ → ℕ → Type 0
Grown m ps u i j = (touches u.rows i j ≡ 1) ↔ ((touches m.rows i j ≡ 1) ⊎ Named ps i j)

pub grown : (m : Regions) (ps : List (ℕ × ℕ)) (u : Regions) → length m.rows ≡ 64 → m.count_of ≤ 64
    → after_pairs m ps ≡ Ok u → (i j : ℕ) → Grown m ps u i j
unfolding after_pairs
grown m [] u l few e i j =
    let same : m ≡ u = same_ok m u e in (
      λ h. inl (ap (λ x. touches x.rows i j) same ∙ h),
      λ h. elim h [ inl y ↦ ap (λ x. touches x.rows i j) (sym same) ∙ y | inr y ↦ absurd y ],
    )
grown m (p ∷ ps) u l few e i j =
    go (pair_fault m.count_of p.0 p.1) refl
    (λ h. grown (with_one m p) ps u (length_with_pair m.rows p.0 p.1 ∙ l) few h i j)
  where
    chosen : Changed m.rows (with_pair m.rows p.0 p.1) p.0 p.1 i j → Grown (with_one m p) ps u i j
        → Grown m (p ∷ ps) u i j
    chosen (inl x) g =
        (λ h. inr (inl x.0), λ h. g.1 (inl x.1))
    chosen (inr x) g = (
      λ h. elim (g.0 h) [ inl y ↦ inl (sym x.1 ∙ y) | inr y ↦ inr (inr y) ],
      λ h. elim h [
        | inl y ↦ g.1 (inl (x.1 ∙ y))
        | inr (inl y) ↦ absurd (x.0 y)
        | inr (inr y) ↦ g.1 (inr y)
      ],
    )

    go : (o : Option Refusal) → pair_fault m.count_of p.0 p.1 ≡ o
        → (after_pairs (with_one m p) ps ≡ Ok u → Grown (with_one m p) ps u i j) → Grown m (p ∷ ps) u i j
    go None f ih =
        let good = pair_good m.count_of p.0 p.1 f in
        chosen (touch_cases m.rows p.0 p.1 l (omega arith) (omega arith) i j)
        (ih (sym (after_good m p ps f) ∙ e))
    go (Some k) f ih = (clash u k (sym (after_bad m p ps k f) ∙ e))

-- what a map made of pairs means
pub meant : (n : ℕ) (ps : List (ℕ × ℕ)) (u : Regions) → n ≤ 64
    → after_pairs (record { count_of = n; rows = bare }) ps ≡ Ok u → Touching ps u.rows
meant n ps u few e i j =
    let g = grown (record { count_of = n; rows = bare }) ps u length_bare few e i j in
    (λ h. elim (g.0 h) [ inl y ↦ absurd (let z = bare_zero i j in omega arith) | inr y ↦ y ], λ h. g.1 (inr h))

pub begun_good : (n : ℕ) → 1 ≤ n → n ≤ 64 → Ok (record { count_of = n; rows = bare }) ≡ begun n
begun_good n some few = grind (arith, nat_tests)

-- ---- a list of pairs, one after the other

pub offer_taken : (m u : Regions) (a b : ℕ) (x : Unit {0}) → (Ok x, u) ≡ offered m a b
    → (pair_fault m.count_of a b ≡ None) × (u ≡ with_one m (a, b))
unfolding by_offer
offer_taken m u a b x e = go (pair_fault m.count_of a b) refl
  where
    go : (o : Option Refusal) → pair_fault m.count_of a b ≡ o
        → (pair_fault m.count_of a b ≡ None) × (u ≡ with_one m (a, b))
    go None f = (f, ap (λ r. r.1) (e ∙ ap (by_offer m a b) f))
    go (Some k) f = (clash x k (sym (ap (λ r. r.0) (e ∙ ap (by_offer m a b) f))))

pub offer_refused : (m u : Regions) (a b : ℕ) (k : Refusal) → (Err k, u) ≡ offered m a b
    → pair_fault m.count_of a b ≡ Some k
unfolding by_offer
offer_refused m u a b k e = go (pair_fault m.count_of a b) refl
  where
    go : (o : Option Refusal) → pair_fault m.count_of a b ≡ o → pair_fault m.count_of a b ≡ Some k
    go None f = (clash tt k (ap (λ r. r.0) (e ∙ ap (by_offer m a b) f)))
    go (Some k') f =
        let same : ◌≡◌ {A = Result (Unit {0}) Refusal} (Err k) (Err k') = ap (λ r. r.0) (e ∙ ap (by_offer m a b) f) in
        cc

pub begun_is : (n : ℕ) (m : Regions) → Ok m ≡ begun n
    → (1 ≤ n) × (n ≤ 64) × (m ≡ record { count_of = n; rows = bare })
begun_is n m e = go (can_have n) refl
  where
    go : (t : Bool) → can_have n ≡ t → (1 ≤ n) × (n ≤ 64) × (m ≡ record { count_of = n; rows = bare })
    go true f = (
      leb-true 1 n (and_parts (leb 1 n) (leb n 64) f).0,
      leb-true n 64 (and_parts (leb 1 n) (leb n 64) f).1,
      same_ok m _ (e ∙ cond-true (can_have n) (Ok (record { count_of = n; rows = bare })) (Err OutOfRange) f),
    )
    go false f =
        (clash m OutOfRange (sym (e ∙ cond-false (can_have n) (Ok (record { count_of = n; rows = bare })) (Err OutOfRange) f)))

by_begun : List (ℕ × ℕ) → Result Regions Refusal → Result Regions Refusal
by_begun ps r = elim r [ Ok m ↦ after_pairs m ps | Err k ↦ Err k ]

from_begun : (n : ℕ) (m : Regions) (ps : List (ℕ × ℕ)) → Ok m ≡ begun n → map_from n ps ≡ after_pairs m ps
unfolding by_begun
from_begun n m ps e = ap (by_begun ps) (sym e)

module _ (n : ℕ) (ps : List (ℕ × ℕ)) (m₀ m : Regions) (i : ℕ) (start : Ok m₀ ≡ begun n)
    (so_far : after_pairs m (drop i ps) ≡ after_pairs m₀ ps) where
  pub run_refused : (u : Regions) (k : Refusal) → i < length ps
      → (Err k, u) ≡ offered m (get_or ps i (0, 0)).0 (get_or ps i (0, 0)).1 → Err k ≡ map_from n ps
  run_refused u k h e =
      sym (from_begun n m₀ ps start ∙ sym so_far ∙ at_drop_more (after_pairs m) ps i (0, 0) h
      ∙ after_bad m (get_or ps i (0, 0)) (drop (i + 1) ps) k (offer_refused m u _ _ k e))

  pub run_taken : (u : Regions) (x : Unit {0}) → i < length ps
      → (Ok x, u) ≡ offered m (get_or ps i (0, 0)).0 (get_or ps i (0, 0)).1
      → after_pairs u (drop (i + 1) ps) ≡ after_pairs m₀ ps
  run_taken u x h e =
      let taken = offer_taken m u _ _ x e in
      ap (λ v. after_pairs v (drop (i + 1) ps)) taken.1
      ∙ sym (after_good m (get_or ps i (0, 0)) (drop (i + 1) ps) taken.0)
      ∙ sym (at_drop_more (after_pairs m) ps i (0, 0) h) ∙ so_far

  run_ends : length ps ≤ i → after_pairs m₀ ps ≡ Ok m
  unfolding after_pairs
  run_ends h = sym so_far ∙ at_drop_all (after_pairs m) ps i h

  pub run_done : length ps ≤ i → Ok m ≡ map_from n ps
  run_done h = sym (from_begun n m₀ ps start ∙ run_ends h)

  pub run_meant : length ps ≤ i → Touching ps m.rows
  run_meant h =
      let first = begun_is n m₀ start in
      meant n ps m first.1 (ap (λ v. after_pairs v ps) (sym first.2) ∙ run_ends h)

-- ---- counting pairs

pub pair_total_more : (t : List ℕ) (j : ℕ) → pair_total t (j + 1) ≡ count j (touches t j) + pair_total t j
unfolding pair_total
pair_total_more t j = ap (pair_total t) (add-one j)

pub lower_is : (s j : ℕ) → j < 64 → ones (bit_and s ((1 * 2 ^ j) % 2 ^ 64 - 1)) ≡ count j (bit s)
lower_is s j h =
    ap (λ x. ones (bit_and s (x - 1))) (one_shl j 64 h) ∙ ap ones (and_mask s j)
    ∙ ones_count j (s % 2 ^ j) (mod-lt s (pow_pos j)) ∙ count_ext j (bit (s % 2 ^ j)) (bit s) (λ i l. bit_mod j s i l)
