-- The digits of a row below its corner, without the sides.
use Rattle.std.proofs.Common.{◌≡◌, ℕ, ◌+◌, ◌-◌, ◌^◌, ◌<◌, ◌≤◌, Bool, true, false, ltb, ◌⊎◌, List, get_or, refl, ◌∙◌, subst, inl, inr, arith}
use lib.Bits.{bit_and}
use Rattle.std.proofs.lemmas.Nat.{pow_pos}
use Rattle.std.proofs.lemmas.Bool.{cases_lt, cond-true, cond-false, lt-ltb, le-ltb}
use Rattle.digits.proofs.Digits.{bit-and, bit_past, bit_small}
use Rattle.digits.specs.Bits.{bit}
use Rattle.pairs.proofs.Numbers.{corners_number}
use Rattle.pairs.specs.Pairs.{number, corners_of}
use Rattle.triangulations.proofs.Edges.{Kind, kind, a_side, a_diagonal, no_pair, inner, edge_member, joined_down}
use Rattle.triangulations.proofs.Tests.{diagonal_decides}
use Rattle.triangulations.specs.Polygon.{Side, Diagonal, is_diagonal}
use Rattle.polygon.proofs.Holding.{set_of_out}
use Rattle.polygon.proofs.Words.{bit_ones, bit_others, bit_others_first}
use Rattle.polygon.specs.Rows.{Tied, set_of, end_of}

-- what the mask of corner b takes off: 2 for the last corner, else 1
abbrev pub Off : ℕ → ℕ → ℕ → Type 0
Off n b s = ((b + 1 ≡ n) × (s ≡ 2)) ⊎ ((b + 1 < n) × (s ≡ 1))

-- ---- the mask

module _ (n b s : ℕ) (large : 3 ≤ n) (first : 0 < b) (off : Off n b s) where
  mask-diagonal : (a : ℕ) → Diagonal n (a, b) → bit (2 ^ (b - 1) - s) a ≡ 1
  mask-diagonal a d = go off
    where
      go : Off n b s → bit (2 ^ (b - 1) - s) a ≡ 1
      go (inl w) =
          let i = inner n (a, b) d in
          simp w.1 (bit_others (b - 1) a (omega arith) (omega arith) (omega arith))
      go (inr w) =
          let i = inner n (a, b) d in
          simp w.1 (bit_ones (b - 1) a (omega arith))

  mask-past : (a : ℕ) → b ≤ a + 1 → bit (2 ^ (b - 1) - s) a ≡ 0
  mask-past a h = bit_past (b - 1) (2 ^ (b - 1) - s) a (omega (arith, pow_pos (b - 1), off)) (omega arith)

  mask-side : (a : ℕ) → Side n (a, b) → bit (2 ^ (b - 1) - s) a ≡ 0
  mask-side a (inl h) = mask-past a (omega arith)
  mask-side a (inr h) = go off
    where
      go : Off n b s → bit (2 ^ (b - 1) - s) a ≡ 0
      go (inl w) = simp (w.1, h.0) (bit_others_first (b - 1) (omega arith))
      go (inr w) = absurd (omega arith)

-- ---- the row

pub set_of_side : (n : ℕ) (rows : List ℕ) (a b : ℕ) → n ≤ 24 → a < b → b < n → Side n (a, b) → set_of n rows (number a b) ≡ 0
set_of_side n rows a b few h l s = go (is_diagonal n (corners_of (number a b))) refl
  where
    go : (t : Bool) → is_diagonal n (corners_of (number a b)) ≡ t → set_of n rows (number a b) ≡ 0
    go true e =
        let d = (diagonal_decides n (corners_of (number a b))).0 e in
        absurd ((subst (λ (p : ℕ × ℕ). Diagonal n p) (corners_number a b h (omega arith)) d).2 s)
    go false e = set_of_out n rows (number a b) e

module _ (n : ℕ) (rows : List ℕ) (b a : ℕ) where
  pub end_in : a < b → end_of n rows b a ≡ set_of n rows (number a b)
  unfolding end_of
  end_in h = cond-true (ltb a b) (set_of n rows (number a b)) 0 (lt-ltb a b h)

  pub end_out : b ≤ a → end_of n rows b a ≡ 0
  unfolding end_of
  end_out h = cond-false (ltb a b) (set_of n rows (number a b)) 0 (le-ltb a b h)

pub ends_digit : (n : ℕ) (rows : List ℕ) (b s : ℕ) → 3 ≤ n → n ≤ 24 → Tied n (set_of n rows) rows → 0 < b → b < n → Off n b s
    → (a : ℕ) → bit (bit_and (get_or rows b 0) (2 ^ (b - 1) - s)) a ≡ end_of n rows b a
ends_digit n rows b s large few tie first within off a = go (kind n a b)
  where
    r : ℕ
    r = get_or rows b 0

    m : ℕ
    m = 2 ^ (b - 1) - s

    go : Kind n a b → bit (bit_and r m) a ≡ end_of n rows b a
    go (a_diagonal d) =
        let digit : bit r a ≡ set_of n rows (number a b) = tie b a ∙ joined_down n (set_of n rows) b a d.0 ∙ edge_member n (set_of n rows) a b d in
        omega (arith, bit-and r m a, bit_small r a, mask-diagonal n b s large first off a d, end_in n rows b a d.0)
    go (a_side h l z) =
        omega (arith, bit-and r m a, mask-side n b s large first off a z, end_in n rows b a h, set_of_side n rows a b few h l z)
    go (no_pair h) =
        let past : b ≤ a = under (cases_lt a b) in
        omega (arith, bit-and r m a, mask-past n b s large first off a (omega arith), end_out n rows b a past)
      where
        under : (a < b) ⊎ (b ≤ a) → b ≤ a
        under (inl l) = absurd (h l within)
        under (inr l) = l
