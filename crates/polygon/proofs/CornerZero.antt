-- Rank and home read off the row of corner 0.
use Rattle.std.proofs.Common.{◌≡◌, ℕ, ◌+◌, ◌-◌, ◌/◌, ◌^◌, ◌<◌, ◌≤◌, ◌⊎◌, List, get_or, Some, None, sym, ap, ◌∙◌, inl, inr, lt_of_lt_of_le, arith, pow_mono}
use lib.Bits.{bit_xor}
use lib.Count.{ones, count_trailing_zeros}
use lib.Pow.{shr_le}
use Rattle.std.proofs.lemmas.Bool.{cases_lt, cases_eq}
use Rattle.digits.proofs.Digits.{bit-xor, bit_zero, count_ext, ones_count, Lowest, trailing_is}
use Rattle.digits.specs.Bits.{bit}
use Rattle.pairs.specs.Pairs.{number}
use Rattle.triangulations.proofs.Drawing.{drawing}
use Rattle.triangulations.proofs.Drawings.{Drawn}
use Rattle.triangulations.proofs.Edges.{edge_none, edge_ends}
use Rattle.triangulations.proofs.Homes.{home_first, home_full}
use Rattle.triangulations.proofs.Ranks.{degree, rank_degree}
use Rattle.triangulations.specs.Moves.{edge, joined, home_slot, rank_of}
use Rattle.triangulations.specs.Textbook.{PairSet}
use Rattle.polygon.proofs.Crossings.{row_limit}
use Rattle.polygon.proofs.Ties.{Kept}
use Rattle.polygon.proofs.Words.{bits_limit, bit_others, bit_others_first, bit_others_past, bit_positive, bit_shr}
use Rattle.polygon.specs.Rows.{others}

module _ (n : ℕ) (S : PairSet) (rows : List ℕ) (k : Kept n S rows) where
  open k use {large, few, small, triangulation as t, tied as tie}

  g : Drawn n (edge n S)
  g = drawing n S large few small t

  -- digit b of the row is the edge (0, b)
  row-digit : (b : ℕ) → bit (get_or rows 0 0) b ≡ edge n S 0 b
  unfolding joined
  row-digit b = tie 0 b ∙ omega (arith, edge_none n S b 0 (λ x y. omega arith))

  limit : get_or rows 0 0 < 2 ^ 32
  limit = lt_of_lt_of_le (row_limit n S rows few tie 0) (pow_mono {i = n} {j = 32} (omega arith))

  pub rank_ones : rank_of n S + ones (get_or rows 0 0) ≡ n - 1
  unfolding degree
  rank_ones =
      omega (
        arith,
        ones_count n (get_or rows 0 0) (row_limit n S rows few tie 0),
        count_ext n (bit (get_or rows 0 0)) (edge n S 0) (λ b l. row-digit b),
        rank_degree n S large few small t,
      )

  -- ---- the corners that are not joined to corner 0

  apart-digit : (c : ℕ) → 0 < c → c < n → bit (bit_xor (others n) (get_or rows 0 0)) c ≡ 1 - edge n S 0 c
  apart-digit c h l =
      omega (arith, bit-xor (others n) (get_or rows 0 0) c, bit_others n c (omega arith) h l, row-digit c, g.digit 0 c)

  apart-first : bit (bit_xor (others n) (get_or rows 0 0)) 0 ≡ 0
  apart-first =
      omega (arith, bit-xor (others n) (get_or rows 0 0) 0, bit_others_first n (omega arith), row-digit 0, edge_none n S 0 0 (λ x y. omega arith))

  apart-past : (c : ℕ) → n ≤ c → bit (bit_xor (others n) (get_or rows 0 0)) c ≡ 0
  apart-past c h =
      omega (arith, bit-xor (others n) (get_or rows 0 0) c, bit_others_past n c h, row-digit c, edge_none n S 0 c (λ x y. omega arith))

  pub home_none_is : bit_xor (others n) (get_or rows 0 0) ≡ 0 → home_slot n S ≡ None
  home_none_is z =
      home_full n S large few small t
      (λ c h l. omega (arith, apart-digit c h l, ap (λ (x : ℕ). bit x c) z, bit_zero c, g.digit 0 c))

  module _ (some : 0 < bit_xor (others n) (get_or rows 0 0)) where
    apart-limit : bit_xor (others n) (get_or rows 0 0) < 2 ^ 32
    apart-limit = lt_of_lt_of_le (bits_limit n (bit_xor (others n) (get_or rows 0 0)) apart-past) (pow_mono {i = n} {j = 32} (omega arith))

    lowest : Lowest 32 (bit_xor (others n) (get_or rows 0 0)) (count_trailing_zeros 32 (bit_xor (others n) (get_or rows 0 0)))
    lowest = trailing_is 32 (bit_xor (others n) (get_or rows 0 0)) some apart-limit

    pub first_positive : 0 < count_trailing_zeros 32 (bit_xor (others n) (get_or rows 0 0))
    first_positive = go (cases_eq (count_trailing_zeros 32 (bit_xor (others n) (get_or rows 0 0))) 0)
      where
        go : (count_trailing_zeros 32 (bit_xor (others n) (get_or rows 0 0)) ≡ 0) ⊎ (count_trailing_zeros 32 (bit_xor (others n) (get_or rows 0 0)) ≡ 0 → ⊥)
            → 0 < count_trailing_zeros 32 (bit_xor (others n) (get_or rows 0 0))
        go (inl z) = absurd (omega (arith, lowest.1, ap (bit (bit_xor (others n) (get_or rows 0 0))) z, apart-first))
        go (inr z) = omega arith

    pub first_below : count_trailing_zeros 32 (bit_xor (others n) (get_or rows 0 0)) < n
    first_below = go (cases_lt (count_trailing_zeros 32 (bit_xor (others n) (get_or rows 0 0))) n)
      where
        go : (count_trailing_zeros 32 (bit_xor (others n) (get_or rows 0 0)) < n) ⊎ (n ≤ count_trailing_zeros 32 (bit_xor (others n) (get_or rows 0 0)))
            → count_trailing_zeros 32 (bit_xor (others n) (get_or rows 0 0)) < n
        go (inl l) = l
        go (inr l) = absurd (omega (arith, lowest.1, apart-past (count_trailing_zeros 32 (bit_xor (others n) (get_or rows 0 0))) l))

    module _ (i : ℕ) (is : i ≡ count_trailing_zeros 32 (bit_xor (others n) (get_or rows 0 0))) where
      first-apart : edge n S 0 i ≡ 0
      first-apart =
          omega (
            arith,
            lowest.1,
            ap (bit (bit_xor (others n) (get_or rows 0 0))) is,
            apart-digit i (omega (arith, first_positive)) (omega (arith, first_below)),
            g.digit 0 i,
          )

      before_joined : (c : ℕ) → 0 < c → c < i → edge n S 0 c ≡ 1
      before_joined c h l =
          omega (arith, lowest.2 c (omega arith), apart-digit c h (omega (arith, first_below)), g.digit 0 c)

      rest-digit : (j : ℕ) → bit (get_or rows 0 0 / 2 ^ i) j ≡ edge n S 0 (i + j)
      rest-digit j = bit_shr (get_or rows 0 0) i j ∙ row-digit (i + j)

      last-digit : bit (get_or rows 0 0 / 2 ^ i) (n - 1 - i) ≡ 1
      last-digit =
          let e : i + (n - 1 - i) ≡ n - 1 = omega (arith, first_below) in
          rest-digit (n - 1 - i) ∙ ap (edge n S 0) e ∙ g.long

      next-lowest : Lowest 32 (get_or rows 0 0 / 2 ^ i) (count_trailing_zeros 32 (get_or rows 0 0 / 2 ^ i))
      next-lowest =
          trailing_is 32 (get_or rows 0 0 / 2 ^ i) (bit_positive (get_or rows 0 0 / 2 ^ i) (n - 1 - i) last-digit)
          (omega (arith, shr_le (get_or rows 0 0) i, limit))

      next_joined : edge n S 0 (i + count_trailing_zeros 32 (get_or rows 0 0 / 2 ^ i)) ≡ 1
      next_joined = sym (rest-digit (count_trailing_zeros 32 (get_or rows 0 0 / 2 ^ i))) ∙ next-lowest.1

      next-after : i < i + count_trailing_zeros 32 (get_or rows 0 0 / 2 ^ i)
      next-after = go (cases_lt 0 (count_trailing_zeros 32 (get_or rows 0 0 / 2 ^ i)))
        where
          go : (0 < count_trailing_zeros 32 (get_or rows 0 0 / 2 ^ i)) ⊎ (count_trailing_zeros 32 (get_or rows 0 0 / 2 ^ i) ≤ 0) → i < i + count_trailing_zeros 32 (get_or rows 0 0 / 2 ^ i)
          go (inl h) = omega arith
          go (inr h) =
              let z : i + count_trailing_zeros 32 (get_or rows 0 0 / 2 ^ i) ≡ i = omega arith in
              absurd (omega (arith, ap (edge n S 0) z, first-apart, next_joined))

      none_between : (d : ℕ) → i < d → d < i + count_trailing_zeros 32 (get_or rows 0 0 / 2 ^ i) → edge n S 0 d ≡ 0
      none_between d h l =
          let e : i + (d - i) ≡ d = omega arith in
          ap (edge n S 0) (sym e) ∙ sym (rest-digit (d - i)) ∙ next-lowest.2 (d - i) (omega arith)

      pub home_some_is : home_slot n S ≡ Some (number (i - 1) (i + count_trailing_zeros 32 (get_or rows 0 0 / 2 ^ i)))
      home_some_is =
          home_first n S large few small t i (omega (arith, first_positive)) (omega (arith, first_below)) first-apart before_joined
          (i + count_trailing_zeros 32 (get_or rows 0 0 / 2 ^ i)) next-after (edge_ends n S 0 (i + count_trailing_zeros 32 (get_or rows 0 0 / 2 ^ i)) next_joined).1 next_joined none_between
