-- The set-up of a map keeps the rules of the textbook: each is said of a row's number, and carried over to
-- the members that its bytes name.
use Rattle.std.proofs.Common.{◌≡◌, ℕ, ◌<◌, ◌≤◌, true, eqb, ◌≢◌, ◌⊎◌, List, Some, None, Decides, Option, sym, refl, ap, ◌∙◌, subst, inl, inr, arith}
use Rattle.std.specs.Prelude.{◌↔◌}
use Rattle.std.proofs.lemmas.Bool.{and_from, cases_eq, eq-eqb, both_ways, false_from_ne_true}
use Rattle.digits.specs.Bits.{bit, count}
use Rattle.digits.proofs.Digits.{bit_small, bit_cases, bit_zero, same_bits, flip_same, flip_other, flip_twice, flip_lt, count_ext}
use Rattle.oracle.specs.Setup.{Code, filled}
use Rattle.masks.specs.Codes.{code, number, row_digit}
use Rattle.masks.specs.Family.{as_slot}
use Rattle.masks.proofs.Codes.{number_code, code_is, code_length, code_bytes, code_from, code_number}
use Rattle.masks.proofs.Lift as lift
use Rattle.masks.proofs.Pick.{least_none, least_some, least_is, least_before, least_found}
use Rattle.masks.proofs.RowDigits.{number_digits}
use Rattle.maps.specs.Touch.{Mutual}
use Rattle.connected.specs.Connected.{Member}
use Rattle.connected.specs.Sets.{RegionCode, is_set, turned, set_slot, can_leave, set_home, set_rank, regions_setup}
use Rattle.connected.specs.Textbook.{InRow, Without, Turned, CanLeave, Textbook}
use Rattle.connected.proofs.Laws.{slot_says, slot_filled, leaver, empty_set, in_a_word, set_decides}
use Rattle.connected.proofs.Subsets.{below}

module _ (n : ℕ) (t : List ℕ) (few : n ≤ 64) (both : Mutual t) where
  abbrev Row : Code → Type 0
  Row v = RegionCode n t v

  digit-of : (v : Code) → Row v → (i : ℕ) → bit (number v) i ≡ row_digit v i
  digit-of v r = number_digits v r.1

  row-set : (v : Code) → Row v → is_set n t (number v) ≡ true
  row-set v r = (set_decides n t few both (number v)).1 r.2

  row-code : (v : Code) → Row v → code (number v) ≡ v
  row-code v r = code_number v (code_from v r.0 r.1)

  -- the code of an object
  number-back : (x : ℕ) → is_set n t x ≡ true → number (code x) ≡ x
  number-back x o = number_code x (in_a_word n t few both x ((set_decides n t few both x).0 o).0)

  code-row : (x : ℕ) → is_set n t x ≡ true → Row (code x)
  code-row x o = (
    code_length (code x) (code_is x),
    code_bytes (code x) (code_is x),
    (set_decides n t few both (number (code x))).0 (ap (is_set n t) (number-back x o) ∙ o),
  )

  -- ---- one member less

  without : (v u : Code) → Row v → Row u → (i : ℕ) → Member (number v) i → number u ≡ turned (number v) i → Without v i u
  without v u rv ru i m e =
      record {
        member = sym (digit-of v rv i) ∙ m;
        gone = λ here. omega (arith, digit-of u ru i, ap (λ x. bit x i) e, flip_same (number v) i);
        others = λ j apart.
            let same : row_digit u j ≡ row_digit v j = sym (digit-of u ru j) ∙ ap (λ x. bit x j) e ∙ flip_other (number v) i j apart ∙ digit-of v rv j in
            (λ h. sym same ∙ h, λ h. same ∙ h);
      }

  member-of : (v u : Code) → Row v → (i : ℕ) → Without v i u → Member (number v) i
  member-of v u rv i w = digit-of v rv i ∙ w.member

  turned-by : (v u : Code) → Row v → Row u → (i : ℕ) → Without v i u → number u ≡ turned (number v) i
  turned-by v u rv ru i w =
      same_bits n (number u) (turned (number v) i) ru.2.0 (flip_lt n (number v) i rv.2.0 (below n (number v) i rv.2.0 m)) (λ j l. level j (cases_eq j i))
    where
      m : Member (number v) i
      m = member-of v u rv i w

      alike : (a b : ℕ) → a ≤ 1 → b ≤ 1 → (a ≡ 1) ↔ (b ≡ 1) → a ≡ b
      alike a b la lb x = go (cases_eq a 1) (cases_eq b 1)
        where
          go : (a ≡ 1) ⊎ (a ≢ 1) → (b ≡ 1) ⊎ (b ≢ 1) → a ≡ b
          go (inl p) q = p ∙ sym (x.0 p)
          go (inr p) (inl q) = absurd (p (x.1 q))
          go (inr p) (inr q) = omega arith

      level : (j : ℕ) → (j ≡ i) ⊎ (j ≢ i) → bit (number u) j ≡ bit (turned (number v) i) j
      level j (inl same) =
          let out : row_digit u i ≢ 1 = w.gone in
          let gone : bit (number u) i ≡ 0 = omega (arith, digit-of u ru i, bit_small (number u) i) in
          ap (bit (number u)) same ∙ omega (arith, gone, flip_same (number v) i, m) ∙ sym (ap (bit (turned (number v) i)) same)
      level j (inr apart) =
          let small_u : row_digit u j ≤ 1 = omega (arith, digit-of u ru j, bit_small (number u) j) in
          let small_v : row_digit v j ≤ 1 = omega (arith, digit-of v rv j, bit_small (number v) j) in
          digit-of u ru j ∙ alike (row_digit u j) (row_digit v j) small_u small_v (w.others j apart) ∙ sym (digit-of v rv j) ∙ sym (flip_other (number v) i j apart)

  -- ---- slots

  filled-turns : (v w : Code) (j k : ℕ) → Row v → (regions_setup n t).slot v j ≡ filled w k → Turned v j w × Row w × (k ≡ j)
  filled-turns v w j k rv e = (turns (bit_cases (number v) j), rw, y.2)
    where
      x : (r : ℕ) × (set_slot n t (number v) j ≡ Some (r, k)) × (w ≡ code r)
      x = lift.slot_filled (set_slot n t (number v) j) w k e

      y : (is_set n t x.0 ≡ true) × (x.0 ≡ turned (number v) j) × (k ≡ j)
      y = slot_says n t (number v) x.0 j k x.1

      rw : Row w
      rw = subst Row (sym x.2) (code-row x.0 y.0)

      led : number w ≡ turned (number v) j
      led = ap number x.2 ∙ number-back x.0 y.0 ∙ y.1

      turns : (bit (number v) j ≡ 0) ⊎ (bit (number v) j ≡ 1) → Turned v j w
      turns (inr m) = inl (without v w rv rw j m led)
      turns (inl z) =
          inr (without w v rw rv j (ap (λ s. bit s j) led ∙ omega (arith, flip_same (number v) j, z))
          (sym (flip_twice (number v) j) ∙ sym (ap (λ s. turned s j) led)))

  turns-filled : (v w : Code) (j k : ℕ) → Row v → Turned v j w × Row w × (k ≡ j) → (regions_setup n t).slot v j ≡ filled w k
  turns-filled v w j k rv x =
      ap as_slot (slot_filled n t (number v) j (ap (is_set n t) (sym led) ∙ row-set w x.1))
      ∙ ap (λ s. filled (code s) j) (sym led) ∙ ap (λ c. filled c j) (row-code w x.1) ∙ ap (filled w) (sym x.2)
    where
      go : Turned v j w → number w ≡ turned (number v) j
      go (inl a) = turned-by v w rv x.1 j a
      go (inr a) = sym (flip_twice (number w) j) ∙ sym (ap (λ s. turned s j) (turned-by w v x.1 rv j a))

      led : number w ≡ turned (number v) j
      led = go x.0

  -- ---- home

  leaves_decides : (v : Code) → Row v → (i : ℕ) → Decides (can_leave n t (number v) i) (CanLeave n t v i)
  unfolding can_leave
  leaves_decides v rv i = (to, from)
    where
      to : can_leave n t (number v) i ≡ true → CanLeave n t v i
      to e =
          let x = leaver n t (number v) i e in
          let u = code (turned (number v) i) in
          let ru = code-row (turned (number v) i) x.1 in
          (u, without v u rv ru i x.0 (number-back (turned (number v) i) x.1), ru)

      from : CanLeave n t v i → can_leave n t (number v) i ≡ true
      from (u, w, ru) =
          and_from (eqb (bit (number v) i) 1) (is_set n t (turned (number v) i)) (eq-eqb (bit (number v) i) 1 (member-of v u rv i w))
          (ap (is_set n t) (sym (turned-by v u rv ru i w)) ∙ row-set u ru)

  leaves-below : (v : Code) → Row v → (i : ℕ) → CanLeave n t v i → i < n
  leaves-below v rv i (u, w, ru) = below n (number v) i rv.2.0 (member-of v u rv i w)

  smallest : (v : Code) (h : ℕ) → Row v → (set_home n t (number v) ≡ Some h) ↔ (CanLeave n t v h × ((i : ℕ) → i < h → ¬ CanLeave n t v i))
  unfolding set_home
  smallest v h rv = (to, from)
    where
      to : set_home n t (number v) ≡ Some h → CanLeave n t v h × ((i : ℕ) → i < h → ¬ CanLeave n t v i)
      to e = (
        (leaves_decides v rv h).0 (least_some (can_leave n t (number v)) n h e).1,
        λ i l c. both_ways (can_leave n t (number v) i) (least_before (can_leave n t (number v)) n h e i l) ((leaves_decides v rv i).1 c),
      )

      from : CanLeave n t v h × ((i : ℕ) → i < h → ¬ CanLeave n t v i) → set_home n t (number v) ≡ Some h
      from x =
          least_is (can_leave n t (number v)) n h (leaves-below v rv h x.0)
          (λ j l. false_from_ne_true (can_leave n t (number v) j) (λ e. x.1 j l ((leaves_decides v rv j).0 e)))
          ((leaves_decides v rv h).1 x.0)

  none-leaves : (v : Code) → Row v → (set_home n t (number v) ≡ None) ↔ ((i : ℕ) → ¬ CanLeave n t v i)
  unfolding set_home
  none-leaves v rv = (to, from)
    where
      to : set_home n t (number v) ≡ None → (i : ℕ) → ¬ CanLeave n t v i
      to e i c =
          let x = least_found (can_leave n t (number v)) n i (leaves-below v rv i c) ((leaves_decides v rv i).1 c) in
          let f : ◌≡◌ {A = Option ℕ} None (Some x.0) = sym e ∙ x.1 in
          let z : ◌≡◌ {A = ℕ} 0 1 = cc in
          omega arith

      from : ((i : ℕ) → ¬ CanLeave n t v i) → set_home n t (number v) ≡ None
      from none = least_none (can_leave n t (number v)) n (λ i l. false_from_ne_true (can_leave n t (number v) i) (λ e. none i ((leaves_decides v rv i).0 e)))

  -- ---- rank and root

  members-counted : (v : Code) → Row v → set_rank n (number v) ≡ count n (row_digit v)
  unfolding set_rank
  members-counted v rv = count_ext n (bit (number v)) (row_digit v) (λ i l. digit-of v rv i)

  root-row : Row (code 0)
  root-row = code-row 0 (empty_set n t)

  root-empty : (i : ℕ) → ¬ InRow (code 0) i
  root-empty i h = omega (arith, digit-of (code 0) root-row i, ap (λ s. bit s i) (number-back 0 (empty_set n t)), bit_zero i, h)

  pub textbook : Textbook n t (regions_setup n t)
  textbook =
      record {
        width = refl;
        height = refl;
        size = refl;
        digits = number_digits;
        slots = λ v w j k rv l. (filled-turns v w j k rv, turns-filled v w j k rv);
        home = smallest;
        homeless = none-leaves;
        rank = members-counted;
        root = (root-row, root-empty);
      }
