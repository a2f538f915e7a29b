-- Which pairs the rows hold.
use Rattle.std.proofs.Common.{◌≡◌, ℕ, ◌<◌, ◌≤◌, Bool, true, false, eqb, ◌⊎◌, List, sym, refl, ap, ◌∙◌, inl, inr, arith}
use Rattle.std.proofs.lemmas.Bool.{cases_lt, cond-true, cond-false, eq-eqb}
use Rattle.pairs.proofs.Numbers.{entry, corners_past, corners_below, pair_count_limit}
use Rattle.pairs.specs.Pairs.{corners_of, pair_count}
use Rattle.triangulations.specs.Polygon.{is_diagonal}
use Rattle.polygon.specs.Rows.{linked, set_of}

set_of_in : (n : ℕ) (rows : List ℕ) (e : ℕ) → is_diagonal n (corners_of e) ≡ true → set_of n rows e ≡ linked rows (corners_of e).0 (corners_of e).1
unfolding set_of
set_of_in n rows e h = cond-true (is_diagonal n (corners_of e)) (linked rows (corners_of e).0 (corners_of e).1) 0 h

pub set_of_out : (n : ℕ) (rows : List ℕ) (e : ℕ) → is_diagonal n (corners_of e) ≡ false → set_of n rows e ≡ 0
unfolding set_of
set_of_out n rows e h = cond-false (is_diagonal n (corners_of e)) (linked rows (corners_of e).0 (corners_of e).1) 0 h

-- the corners of any number are in order and index the rows
pub corners_limit : (e : ℕ) (p : ℕ × ℕ) → p ≡ corners_of e → (p.0 ≤ p.1) × (p.1 < 24)
corners_limit e p at = go (cases_lt e 276)
  where
    go : (e < 276) ⊎ (276 ≤ e) → (p.0 ≤ p.1) × (p.1 < 24)
    go (inl h) =
        let t = entry e h in
        let low = ap (λ (q : ℕ × ℕ). q.0) at in
        let high = ap (λ (q : ℕ × ℕ). q.1) at in
        (omega (arith, t.ascending, t.within), omega (arith, t.within))
    go (inr h) =
        let none = at ∙ corners_past e h in
        (omega (arith, ap (λ (q : ℕ × ℕ). q.0) none), omega (arith, ap (λ (q : ℕ × ℕ). q.1) none))

-- a number below the width is that of a pair of the polygon's corners
pub corners_in : (n e : ℕ) (p : ℕ × ℕ) → p ≡ corners_of e → n ≤ 24 → e < pair_count n → (p.0 < p.1) × (p.1 < n)
corners_in n e p at few l =
    let up = (entry e (omega (arith, pair_count_limit n few))).ascending in
    let low = ap (λ (q : ℕ × ℕ). q.0) at in
    let high = ap (λ (q : ℕ × ℕ). q.1) at in
    (omega arith, omega (arith, corners_below n e few l))

-- the test of a pair with the corners p
module _ (n : ℕ) (rows : List ℕ) (e : ℕ) (p : ℕ × ℕ) (at : p ≡ corners_of e) where
  pub held_in : is_diagonal n p ≡ true → eqb (linked rows p.0 p.1) 1 ≡ eqb (set_of n rows e) 1
  held_in h =
      ap (λ (q : ℕ × ℕ). eqb (linked rows q.0 q.1) 1) at
      ∙ ap (λ (x : ℕ). eqb x 1) (sym (set_of_in n rows e (ap (is_diagonal n) (sym at) ∙ h)))

  pub held_out : is_diagonal n p ≡ false → false ≡ eqb (set_of n rows e) 1
  held_out h = ap (λ (x : ℕ). eqb x 1) (sym (set_of_out n rows e (ap (is_diagonal n) (sym at) ∙ h)))

  pub held_joined : linked rows p.0 p.1 ≡ 1 → is_diagonal n p ≡ eqb (set_of n rows e) 1
  held_joined m = go (is_diagonal n p) refl
    where
      go : (b : Bool) → is_diagonal n p ≡ b → is_diagonal n p ≡ eqb (set_of n rows e) 1
      go true h = h ∙ sym (eq-eqb (linked rows p.0 p.1) 1 m) ∙ held_in h
      go false h = h ∙ held_out h

  pub held_apart : eqb (linked rows p.0 p.1) 1 ≡ false → false ≡ eqb (set_of n rows e) 1
  held_apart m = go (is_diagonal n p) refl
    where
      go : (b : Bool) → is_diagonal n p ≡ b → false ≡ eqb (set_of n rows e) 1
      go true h = sym m ∙ held_in h
      go false h = held_out h
