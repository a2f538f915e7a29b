-- The search for the smallest member that can leave: members are tried in ascending order, and `rest` are
-- those not tried yet.
use Rattle.std.proofs.Common.{◌≡◌, ℕ, ◌-◌, ◌^◌, ◌<◌, true, false, ◌&&◌, eqb, ◌≢◌, ◌⊎◌, List, Some, None, sym, ap, ◌∙◌, subst, inl, inr, arith}
use lib.Bits.{bit_and, bit_xor}
use lib.Count.{count_trailing_zeros}
use Rattle.std.proofs.lemmas.Nat.{and_le_r}
use Rattle.std.proofs.lemmas.Bool.{cases_eq, eq-eqb, ne_eqb, and_from, and_left, and_right}
use Rattle.digits.specs.Bits.{bit}
use Rattle.digits.proofs.Digits.{Lowest, bit_zero, bit-and, flip_other, trailing_is, clear_flip}
use Rattle.masks.proofs.Pick.{least_none, least_is}
use Rattle.connected.specs.Sets.{is_set, turned, can_leave, set_home}
use Rattle.connected.specs.Connected.{Member, Within}
use Rattle.connected.proofs.Subsets.{member_within, below}

module _ (n : ℕ) (t : List ℕ) (s : ℕ) where
  abbrev pub Tried : ℕ → Type 0
  Tried rest = (rest < 2 ^ 64) × Within rest s × ((j : ℕ) → bit rest j ≡ 0 → can_leave n t s j ≡ false)

  stays : (j : ℕ) → bit s j ≡ 0 → can_leave n t s j ≡ false
  unfolding can_leave
  stays j z = and_left (eqb (bit s j) 1) (is_set n t (turned s j)) (ne_eqb (bit s j) 1 (λ e. omega arith))

  pub tried_none : s < 2 ^ 64 → Tried s
  tried_none h = (h, λ j. omega arith, stays)

  -- i is the next to be tried
  module _ (rest i : ℕ) (x : Tried rest) (some : rest ≢ 0) (next : i ≡ count_trailing_zeros 64 rest) where
    lowest : Lowest 64 rest i
    lowest = subst (Lowest 64 rest) (sym next) (trailing_is 64 rest (omega arith) x.0)

    member : Member s i
    member = member_within rest s i x.1 lowest.1

    pub next_below : s < 2 ^ n → i < n
    next_below h = below n s i h member

    pub tried_more : false ≡ is_set n t (turned s i) → Tried (bit_and rest (rest - 1))
    unfolding can_leave
    tried_more e = (omega (arith, and_le_r rest (rest - 1)), λ j. omega (arith, bit-and rest (rest - 1) j, x.1 j), λ j z. again j z (cases_eq j i))
      where
        cleared : bit_and rest (rest - 1) ≡ bit_xor rest (2 ^ i)
        cleared = clear_flip 64 rest (omega arith) x.0 ∙ ap (λ k. bit_xor rest (2 ^ k)) (sym next)

        again : (j : ℕ) → bit (bit_and rest (rest - 1)) j ≡ 0 → (j ≡ i) ⊎ (j ≢ i) → (eqb (bit s j) 1 && is_set n t (turned s j)) ≡ false
        again j z (inl same) = and_right (eqb (bit s j) 1) (is_set n t (turned s j)) (ap (λ k. is_set n t (turned s k)) same ∙ sym e)
        again j z (inr other) = x.2 j (sym (flip_other rest i j other) ∙ sym (ap (λ y. bit y j) cleared) ∙ z)

    pub tried_found : s < 2 ^ n → true ≡ is_set n t (turned s i) → Some i ≡ set_home n t s
    unfolding set_home can_leave
    tried_found h e =
        sym (least_is (can_leave n t s) n i (next_below h) (λ j l. x.2 j (lowest.2 j l))
        (and_from (eqb (bit s i) 1) (is_set n t (turned s i)) (eq-eqb (bit s i) 1 member) (sym e)))

  pub tried_all : (rest : ℕ) → Tried rest → rest ≡ 0 → None ≡ set_home n t s
  unfolding set_home
  tried_all rest x e = sym (least_none (can_leave n t s) n (λ j l. x.2 j (ap (λ y. bit y j) e ∙ bit_zero j)))
