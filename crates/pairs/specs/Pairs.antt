-- Pairs of corners (a, b) with a < b, and their numbers. Assumes nothing.
use Rattle.std.specs.Prelude.{◌≡◌, ℕ, zero, suc, ◌+◌, ◌-◌, ◌*◌, ◌/◌, ◌<◌, List, [], ◌++◌, map, slice_index_or}
use Rattle.std.specs.List.{range_with_len}

-- How many pairs n corners have: the numbers of their pairs are those below it.
unfoldable pub pair_count : ℕ → ℕ
pair_count n = n * (n - 1) / 2

-- The number of the pair (a, b).
unfoldable pub number : ℕ → ℕ → ℕ
number a b = pair_count b + a

-- The pairs whose second corner is below b, by ascending second corner, then by ascending first.
unfoldable pub pairs_below : ℕ → List (ℕ × ℕ)
pairs_below zero = []
pairs_below (suc b) = pairs_below b ++ map (λ a. (a, b)) (range_with_len 0 b)

-- The pair with the number e.
unfoldable pub corners_of : ℕ → ℕ × ℕ
corners_of e = slice_index_or (pairs_below 24) e (0, 0)

-- The rule of the table: entry e is the pair (a, b), a < b < 24, with the number e.
pub record Entry (e : ℕ) (p : ℕ × ℕ) : Type 0 where
  pub ascending : p.0 < p.1
  pub within : p.1 < 24
  pub numbered : number p.0 p.1 ≡ e
