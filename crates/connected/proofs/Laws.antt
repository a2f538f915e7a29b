-- The connected sets of up to 64 regions keep the laws of a family of masks.
use Rattle.std.proofs.Common.{◌≡◌, ℕ, ◌+◌, ◌^◌, ◌<◌, ◌≤◌, Bool, true, false, cond, ◌&&◌, eqb, ltb, ◌≢◌, List, Some, None, Decides, Option, sym, refl, ap, ◌∙◌, subst, lt_of_lt_of_le, arith, pow_pos, pow_mono}
use Rattle.std.proofs.lemmas.Bool.{and_parts, and_from, and_left, ltb-true, lt-ltb, eqb-true, eq-eqb, ne_eqb, cond-true, cond-false}
use Rattle.digits.specs.Bits.{bit}
use Rattle.digits.proofs.Digits.{bit_small, bit_zero, flip_same, flip_other, flip_twice, flip_lt, count_le, count_zero, count_change}
use Rattle.oracle.specs.Laws.{Lawful}
use Rattle.masks.specs.Codes.{number, is_code}
use Rattle.masks.specs.Family.{FamilyLaws}
use Rattle.masks.proofs.Codes.{code_length, code_bytes, code_from}
use Rattle.masks.proofs.Lift.{coded_lawful}
use Rattle.masks.proofs.Pick.{least_none, least_some, least_found}
use Rattle.maps.specs.Touch.{Mutual}
use Rattle.connected.specs.Connected.{Member, is_connected}
use Rattle.connected.specs.Sets.{RegionSet, RegionCode, is_set, turned, set_slot, can_leave, set_home, set_rank, region_sets, regions_setup}
use Rattle.connected.proofs.Decided.{connected_decides, empty_passes}
use Rattle.connected.proofs.Removal.{can_go}

-- a filled slot, and what it says
pub slot_says : (n : ℕ) (t : List ℕ) (s r j k : ℕ) → set_slot n t s j ≡ Some (r, k) → (is_set n t r ≡ true) × (r ≡ turned s j) × (k ≡ j)
unfolding set_slot
slot_says n t s r j k e = go (is_set n t (turned s j)) refl e
  where
    go : (b : Bool) → is_set n t (turned s j) ≡ b → cond {A = Option (ℕ × ℕ)} b (Some (turned s j, j)) None ≡ Some (r, k)
        → (is_set n t r ≡ true) × (r ≡ turned s j) × (k ≡ j)
    go true h f =
        let pair : ◌≡◌ {A = ℕ × ℕ} (r, k) (turned s j, j) = cc in
        let same : r ≡ turned s j = ap (λ (x : ℕ × ℕ). x.0) pair in
        (subst (λ x. is_set n t x ≡ true) (sym same) h, same, ap (λ (x : ℕ × ℕ). x.1) pair)
    go false h f = let z : ◌≡◌ {A = ℕ} 0 1 = cc in absurd (omega arith)

pub slot_filled : (n : ℕ) (t : List ℕ) (s j : ℕ) → is_set n t (turned s j) ≡ true → set_slot n t s j ≡ Some (turned s j, j)
unfolding set_slot
slot_filled n t s j h = cond-true (is_set n t (turned s j)) (Some (turned s j, j)) None h

pub slot_vacant : (n : ℕ) (t : List ℕ) (s j : ℕ) → is_set n t (turned s j) ≡ false → set_slot n t s j ≡ None
unfolding set_slot
slot_vacant n t s j h = cond-false (is_set n t (turned s j)) (Some (turned s j, j)) None h

slot_back : (n : ℕ) (t : List ℕ) (s j : ℕ) → is_set n t s ≡ true → set_slot n t (turned s j) j ≡ Some (s, j)
slot_back n t s j o =
    slot_filled n t (turned s j) j (ap (is_set n t) (flip_twice s j) ∙ o) ∙ ap (λ x. Some (x, j)) (flip_twice s j)

-- one member less
rank_turned : (n s i : ℕ) → i < n → Member s i → set_rank n (turned s i) + 1 ≡ set_rank n s
unfolding set_rank
rank_turned n s i l m =
    omega (arith, count_change n (bit (turned s i)) (bit s) i l (λ j h d. flip_other s i j d), flip_same s i)

pub leaver : (n : ℕ) (t : List ℕ) (s i : ℕ) → can_leave n t s i ≡ true → Member s i × (is_set n t (turned s i) ≡ true)
unfolding can_leave
leaver n t s i h =
    let p = and_parts (eqb (bit s i) 1) (is_set n t (turned s i)) h in
    (eqb-true (bit s i) 1 p.0, p.1)

home_says : (n : ℕ) (t : List ℕ) (s h : ℕ) → set_home n t s ≡ Some h → (h < n) × Member s h × (is_set n t (turned s h) ≡ true)
unfolding set_home
home_says n t s h e =
    let x = least_some (can_leave n t s) n h e in
    let y = leaver n t s h x.1 in
    (x.0, y.0, y.1)

empty_homeless : (n : ℕ) (t : List ℕ) → set_home n t 0 ≡ None
unfolding set_home can_leave
empty_homeless n t =
    least_none (λ i. eqb (bit 0 i) 1 && is_set n t (turned 0 i)) n
    (λ i l. and_left (eqb (bit 0 i) 1) (is_set n t (turned 0 i)) (ne_eqb (bit 0 i) 1 (λ e. omega (arith, bit_zero i))))

pub empty_set : (n : ℕ) (t : List ℕ) → is_set n t 0 ≡ true
unfolding is_set
empty_set n t = and_from (ltb 0 (2 ^ n)) (is_connected t 0) (lt-ltb 0 (2 ^ n) (pow_pos n)) (empty_passes t)

module _ (n : ℕ) (t : List ℕ) (few : n ≤ 64) (both : Mutual t) where
  pub in_a_word : (s : ℕ) → s < 2 ^ n → s < 2 ^ 64
  in_a_word s h = lt_of_lt_of_le h (pow_mono few)

  -- the test decides what the textbook says
  pub set_decides : (s : ℕ) → Decides (is_set n t s) (RegionSet n t s)
  unfolding is_set
  set_decides s = (to, from)
    where
      to : (ltb s (2 ^ n) && is_connected t s) ≡ true → RegionSet n t s
      to h =
          let p = and_parts (ltb s (2 ^ n)) (is_connected t s) h in
          let l = ltb-true s (2 ^ n) p.0 in
          (l, (connected_decides t s both (in_a_word s l)).0 p.1)

      from : RegionSet n t s → (ltb s (2 ^ n) && is_connected t s) ≡ true
      from x =
          and_from (ltb s (2 ^ n)) (is_connected t s) (lt-ltb s (2 ^ n) x.0)
          ((connected_decides t s both (in_a_word s x.0)).1 x.1)

  -- a set that is not empty has a member that can leave it
  has-leaver : (s : ℕ) → is_set n t s ≡ true → s ≢ 0 → (h : ℕ) × (set_home n t s ≡ Some h)
  unfolding set_home can_leave
  has-leaver s o some =
      let x = (set_decides s).0 o in
      let y = can_go n t s both x.0 x.1 some in
      let i = y.0 in
      let left = (set_decides (turned s i)).1 (flip_lt n s i x.0 y.1, y.3) in
      least_found (can_leave n t s) n i y.1
      (and_from (eqb (bit s i) 1) (is_set n t (turned s i)) (eq-eqb (bit s i) 1 y.2) left)

  pub region_sets_laws : FamilyLaws (region_sets n t)
  unfolding set_rank
  region_sets_laws =
      record {
        width_limit = omega arith;
        height_limit = omega arith;
        in_a_word = λ s o. in_a_word s ((set_decides s).0 o).0;
        rank_limit = λ s o. count_le n (bit s) (λ i l. bit_small s i);
        neighbour_object = λ s r j k o l e. (slot_says n t s r j k e).0;
        return_below = λ s r j k o l e. omega (arith, (slot_says n t s r j k e).2);
        return_leads_back = λ s r j k o l e.
            let x = slot_says n t s r j k e in
            ap (λ y. set_slot n t y k) x.1 ∙ ap (set_slot n t (turned s j)) x.2 ∙ slot_back n t s j o;
        root_object = empty_set n t;
        root_rank = count_zero n (bit 0) (λ i l. bit_zero i);
        root_homeless = empty_homeless n t;
        has_home = has-leaver;
        home_below = λ s h o e. (home_says n t s h e).0;
        home_filled = λ s h o e. (turned s h, h, slot_filled n t s h (home_says n t s h e).2);
        parent_lower = λ s r h i o e f.
            let x = home_says n t s h e in
            let y = slot_says n t s r h i f in
            omega (arith, rank_turned n s h x.0 x.1, ap (set_rank n) y.1);
      }

  pub regions_lawful : Lawful (regions_setup n t)
  regions_lawful = coded_lawful (region_sets n t) region_sets_laws

  pub code_decides : (row : List ℕ) → Decides ((regions_setup n t).object row) (RegionCode n t row)
  code_decides row = (to, from)
    where
      to : (is_code row && is_set n t (number row)) ≡ true → RegionCode n t row
      to h =
          let p = and_parts (is_code row) (is_set n t (number row)) h in
          (code_length row p.0, code_bytes row p.0, (set_decides (number row)).0 p.1)

      from : RegionCode n t row → (is_code row && is_set n t (number row)) ≡ true
      from x = and_from (is_code row) (is_set n t (number row)) (code_from row x.0 x.1) ((set_decides (number row)).1 x.2)
