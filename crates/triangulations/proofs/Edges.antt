-- Sides and members, pair by pair.
use Rattle.std.proofs.Common.{◌≡◌, ℕ, ◌+◌, ◌-◌, ◌<◌, ◌≤◌, Bool, true, false, cond, ◌&&◌, ltb, ◌⊎◌, refl, ap, ◌∙◌, inl, inr, arith}
use Rattle.std.proofs.lemmas.Bool.{cases_lt, ltb-true, lt-ltb, and_parts, and_from, cond-true, cond-false}
use Rattle.std.proofs.lemmas.Bool.Decides.{not_from_Decides}
use Rattle.pairs.specs.Pairs.{number, corners_of}
use Rattle.pairs.proofs.Numbers.{entry, corners_past}
use Rattle.triangulations.specs.Moves.{edge, joined}
use Rattle.triangulations.specs.Polygon.{Side, Diagonal, is_side}
use Rattle.triangulations.specs.Textbook.{PairSet}
use Rattle.triangulations.proofs.Tests.{side_decides}

false_from : (t : Bool) → (t ≡ true → ⊥) → t ≡ false
false_from true h = absurd (h refl)
false_from false h = refl

-- ---- diagonals

-- a diagonal, for `omega`
pub record Inner (n a b : ℕ) : Type 0 where
  pub wide : a + 1 < b
  pub within : b < n
  pub cut : (0 < a) ⊎ (b < n - 1)

pub inner : (n : ℕ) (p : ℕ × ℕ) → Diagonal n p → Inner n p.0 p.1
inner n p d = record { wide = wide (cases_lt (p.0 + 1) p.1); within = d.1; cut = cut (cases_lt 0 p.0) (cases_lt p.1 (n - 1)) }
  where
    wide : (p.0 + 1 < p.1) ⊎ (p.1 ≤ p.0 + 1) → p.0 + 1 < p.1
    wide (inl h) = h
    wide (inr h) = absurd (d.2 (inl (omega (arith, d.0))))

    cut : (0 < p.0) ⊎ (p.0 ≤ 0) → (p.1 < n - 1) ⊎ (n - 1 ≤ p.1) → (0 < p.0) ⊎ (p.1 < n - 1)
    cut (inl h) k = inl h
    cut (inr h) (inl k) = inr k
    cut (inr h) (inr k) = absurd (d.2 (inr (omega arith, omega (arith, d.1))))

pub diagonal_from : (n a b : ℕ) → Inner n a b → Diagonal n (a, b)
diagonal_from n a b i = (omega (arith, i.wide), i.within, not-side)
  where
    not-side : Side n (a, b) → ⊥
    not-side (inl s) = omega (arith, i.wide)
    not-side (inr s) = omega (arith, i.cut)

-- only the numbers of pairs are those of diagonals
pub diagonal_numbered : (n e : ℕ) → Diagonal n (corners_of e) → (e < 276) × (number (corners_of e).0 (corners_of e).1 ≡ e)
diagonal_numbered n e d = go (cases_lt e 276)
  where
    go : (e < 276) ⊎ (276 ≤ e) → (e < 276) × (number (corners_of e).0 (corners_of e).1 ≡ e)
    go (inl h) = (h, (entry e h).numbered)
    go (inr h) =
        let past = corners_past e h in
        absurd (omega (arith, d.0, ap (λ (p : ℕ × ℕ). p.0) past, ap (λ (p : ℕ × ℕ). p.1) past))

-- ---- edges

-- two corners in order are a side, a diagonal, or no pair of the polygon
pub data Kind (n a b : ℕ) : Type 0 where
  a_side : a < b → b < n → Side n (a, b) → Kind n a b
  a_diagonal : Diagonal n (a, b) → Kind n a b
  no_pair : (a < b → b < n → ⊥) → Kind n a b

pub kind : (n a b : ℕ) → Kind n a b
kind n a b = go (cases_lt a b) (cases_lt b n) (is_side n (a, b)) refl
  where
    go : (a < b) ⊎ (b ≤ a) → (b < n) ⊎ (n ≤ b) → (t : Bool) → is_side n (a, b) ≡ t → Kind n a b
    go (inl h) (inl l) true e = a_side h l ((side_decides n (a, b)).0 e)
    go (inl h) (inl l) false e = a_diagonal (h, l, not_from_Decides (is_side n (a, b)) (side_decides n (a, b)) e)
    go (inl h) (inr l) t e = no_pair (λ x y. omega arith)
    go (inr h) l t e = no_pair (λ x y. omega arith)

module _ (n : ℕ) (S : PairSet) (a b : ℕ) where
  edge_in : a < b → b < n → edge n S a b ≡ cond (is_side n (a, b)) 1 (S (number a b))
  unfolding edge
  edge_in h l = cond-true (ltb a b && ltb b n) _ _ (and_from (ltb a b) (ltb b n) (lt-ltb a b h) (lt-ltb b n l))

  pub edge_none : (a < b → b < n → ⊥) → edge n S a b ≡ 0
  unfolding edge
  edge_none h =
      cond-false (ltb a b && ltb b n) _ _
      (false_from (ltb a b && ltb b n)
      (λ t. h (ltb-true a b (and_parts (ltb a b) (ltb b n) t).0) (ltb-true b n (and_parts (ltb a b) (ltb b n) t).1)))

  pub edge_side : a < b → b < n → Side n (a, b) → edge n S a b ≡ 1
  edge_side h l s = edge_in h l ∙ cond-true (is_side n (a, b)) 1 (S (number a b)) ((side_decides n (a, b)).1 s)

  pub edge_member : Diagonal n (a, b) → edge n S a b ≡ S (number a b)
  edge_member d =
      edge_in d.0 d.1
      ∙ cond-false (is_side n (a, b)) 1 (S (number a b)) (false_from (is_side n (a, b)) (λ t. d.2 ((side_decides n (a, b)).0 t)))

  pub edge_ends : edge n S a b ≡ 1 → (a < b) × (b < n)
  edge_ends e = go (cases_lt a b) (cases_lt b n)
    where
      go : (a < b) ⊎ (b ≤ a) → (b < n) ⊎ (n ≤ b) → (a < b) × (b < n)
      go (inl h) (inl l) = (h, l)
      go (inl h) (inr l) = absurd (omega (arith, edge_none (λ x y. omega arith)))
      go (inr h) l = absurd (omega (arith, edge_none (λ x y. omega arith)))

  pub edge_small : ((e : ℕ) → S e ≤ 1) → edge n S a b ≤ 1
  edge_small small = go (kind n a b)
    where
      go : Kind n a b → edge n S a b ≤ 1
      go (a_side h l s) = omega (arith, edge_side h l s)
      go (a_diagonal d) = omega (arith, edge_member d, small (number a b))
      go (no_pair h) = omega (arith, edge_none h)

pub joined_up : (n : ℕ) (S : PairSet) (a b : ℕ) → a < b → joined n S a b ≡ edge n S a b
unfolding joined
joined_up n S a b h = omega (arith, edge_none n S b a (λ x y. omega arith))

pub joined_down : (n : ℕ) (S : PairSet) (a b : ℕ) → b < a → joined n S a b ≡ edge n S b a
unfolding joined
joined_down n S a b h = omega (arith, edge_none n S a b (λ x y. omega arith))

pub joined_self : (n : ℕ) (S : PairSet) (a : ℕ) → joined n S a a ≡ 0
unfolding joined
joined_self n S a = omega (arith, edge_none n S a a (λ x y. omega arith))
