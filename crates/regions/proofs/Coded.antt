-- What the calls answer, in words of the current set.
use Rattle.std.proofs.Common.{◌≡◌, ℕ, ◌^◌, ◌<◌, Bool, true, false, cond, ◌&&◌, ltb, List, Some, None, Ok, Err, Decides, Option, Result, sym, refl, ap, ◌∙◌, subst, arith}
use lib.Count.{ones}
use Rattle.std.proofs.lemmas.Bool.{lt-ltb, and_from}
use Rattle.std.proofs.lemmas.Bool.Decides.{same_from_decides, Decides-like}
use Rattle.refusals.specs.declared.Refusal.{Refusal}
use Rattle.refusals.specs.declared.Refusal.TheVariants.{SlotRange, NotACode}
use Rattle.digits.proofs.Digits.{ones_count}
use Rattle.oracle.specs.Setup.{Code}
use Rattle.oracle.specs.Calls.{into, stepped, taken}
use Rattle.masks.specs.Codes.{code, number, is_code, read_code}
use Rattle.masks.specs.Family.{as_slot}
use Rattle.masks.proofs.Codes.{number_code, read_says}
use Rattle.connected.specs.Sets.{RegionSet, is_set, turned, set_slot, set_rank, regions_setup}
use Rattle.connected.specs.Connected.{Connected, is_connected}
use Rattle.connected.proofs.Laws.{slot_filled, slot_vacant, set_decides, region_sets_laws}
use Rattle.maps.specs.declared.map.Map.{Map}
use Rattle.regions.specs.Rows.{set_of_row}
use Rattle.regions.specs.declared.subject.Regions.{Regions}

-- a set below 2 ^ n is an object exactly if it is connected
pub judged : (m : Map) (s : ℕ) (r : Bool) → s < 2 ^ m.n → Decides r (Connected m.rows s) → r ≡ is_set m.n m.rows s
judged m s r l d =
    same_from_decides r (is_set m.n m.rows s) (Decides-like r (λ c. (l, c)) (λ (x : RegionSet m.n m.rows s). x.1) d)
    (set_decides m.n m.rows m.few m.mutual s)

pub is_set_out : (n : ℕ) (t : List ℕ) (s : ℕ) → false ≡ ltb s (2 ^ n) → false ≡ is_set n t s
unfolding is_set
is_set_out n t s e = ap (λ b. b && is_connected t s) e

-- the current set has no digit from n on, and is a word
pub set_below : (r : Regions) → r.set < 2 ^ r.map.n
set_below r = ((set_decides r.map.n r.map.rows r.map.few r.map.mutual r.set).0 r.stands).0

pub set_fits : (r : Regions) → r.set < 2 ^ 64
set_fits r = (region_sets_laws r.map.n r.map.rows r.map.few r.map.mutual).in_a_word r.set r.stands

-- a step by slot j of v answers what the slot holds
stepped_by : (n : ℕ) (t : List ℕ) (v : Code) (j : ℕ) (o : Option (ℕ × ℕ)) → j < n → set_slot n t (number v) j ≡ o
    → into v (as_slot o) ≡ stepped (regions_setup n t) v j
stepped_by n t v j o l e =
    subst (λ b. into v (as_slot o) ≡ elim b [ true ↦ into v (as_slot (set_slot n t (number v) j)) | false ↦ (Err SlotRange, v) ]) (sym (lt-ltb j n l))
    (ap (λ x. into v (as_slot x)) (sym e))

module _ (n : ℕ) (t : List ℕ) (s : ℕ) (h : s < 2 ^ 64) where
  pub stepped_vacant : (j : ℕ) → j < n → false ≡ is_set n t (turned s j) → (Ok None, code s) ≡ stepped (regions_setup n t) (code s) j
  stepped_vacant j l e =
      stepped_by n t (code s) j None l (ap (λ x. set_slot n t x j) (number_code s h) ∙ slot_vacant n t s j (sym e))

  pub stepped_filled : (j : ℕ) → j < n → true ≡ is_set n t (turned s j)
      → (Ok (Some j), code (turned s j)) ≡ stepped (regions_setup n t) (code s) j
  stepped_filled j l e =
      stepped_by n t (code s) j (Some (turned s j, j)) l (ap (λ x. set_slot n t x j) (number_code s h) ∙ slot_filled n t s j (sym e))

pub rank_ones : (n s : ℕ) → s < 2 ^ n → s < 2 ^ 64 → ones s ≡ set_rank n (number (code s))
unfolding set_rank
rank_ones n s l h = ones_count n s l ∙ ap (set_rank n) (sym (number_code s h))

-- a row that is the code of a set is taken
row_says : (n : ℕ) (t : List ℕ) (s : ℕ) (row : Code) → Some s ≡ set_of_row n t row → (Some s ≡ read_code row) × (is_set n t s ≡ true)
row_says n t s row e = go (read_code row) refl e
  where
    judge : (k : ℕ) (b : Bool) → is_set n t k ≡ b → Some s ≡ cond b (Some k) None → (k ≡ s) × (is_set n t s ≡ true)
    judge k true h f = let same : k ≡ s = cc in (same, ap (is_set n t) (sym same) ∙ h)
    judge k false h f = let z : ◌≡◌ {A = ℕ} 0 1 = cc in absurd (omega arith)

    go : (o : Option ℕ) → read_code row ≡ o → ◌≡◌ {A = Option ℕ} (Some s) (elim o [ None ↦ None | Some k ↦ cond (is_set n t k) (Some k) None ])
        → (Some s ≡ read_code row) × (is_set n t s ≡ true)
    go None h f = let z : ◌≡◌ {A = ℕ} 0 1 = cc in absurd (omega arith)
    go (Some k) h f =
        let x = judge k (is_set n t k) refl f in
        (ap Some (sym x.0) ∙ sym h, x.1)

pub taken_set : (n : ℕ) (t : List ℕ) (s : ℕ) (v row : Code) → Some s ≡ set_of_row n t row → (Ok tt, code s) ≡ taken (regions_setup n t) v row
taken_set n t s v row e =
    let y = row_says n t s row e in
    let x = read_says row s y.0 in
    let whole = and_from (is_code row) (is_set n t (number row)) x.0 (ap (is_set n t) x.1 ∙ y.1) in
    let answer : Code → Result (Unit {0}) Refusal × Code = λ w. (Ok tt, w) in
    subst (λ b. answer (code s) ≡ elim b [ true ↦ answer row | false ↦ (Err NotACode, v) ]) (sym whole) (ap answer x.2)
