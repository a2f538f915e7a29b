-- Adjacency rows: digit b of row a is 1 where the corners a and b are joined by a side or a diagonal.
use Rattle.std.specs.Prelude.{◌≡◌, ℕ, ◌+◌, ◌-◌, ◌/◌, ◌^◌, Bool, true, false, cond, List, ◌==◌, bit_and, bit_xor, nat_eq, nat_lt, slice_index, slice_set}
use Rattle.std.specs.Int.Count.{count_trailing_zeros}
use Rattle.digits.specs.Bits.{bit}
use Rattle.oracle.specs.Setup.{Code}
use Rattle.pairs.specs.Pairs.{number, corners_of}
use Rattle.triangulations.specs.Codes.{members}
use Rattle.triangulations.specs.Moves.{joined}
use Rattle.triangulations.specs.Polygon.{is_diagonal}
use Rattle.triangulations.specs.Search.{every}
use Rattle.triangulations.specs.Textbook.{PairSet}

-- Whether the corners a and b are joined.
abbrev pub linked : List ℕ → ℕ → ℕ → ℕ
linked rows a b = bit (slice_index rows a) b

-- The rows of a set of pairs.
abbrev pub Tied : ℕ → PairSet → List ℕ → Type 0
Tied n S rows = (a b : ℕ) → linked rows a b ≡ joined n S a b

-- The diagonals among the joined corners.
unfoldable pub set_of : ℕ → List ℕ → PairSet
set_of n rows e = cond (is_diagonal n (corners_of e)) (linked rows (corners_of e).0 (corners_of e).1) 0

-- The pairs with the second corner b as digits: digit a is 1 if pair (a, b) is in the set.
unfoldable pub end_of : ℕ → List ℕ → ℕ → ℕ → ℕ
end_of n rows b a = cond (nat_lt a b) (set_of n rows (number a b)) 0

-- The rows with the corners a and b parted if they were joined, and joined if they were not.
abbrev pub half_switched : List ℕ → ℕ → ℕ → List ℕ
half_switched rows a b = slice_set rows a (bit_xor (slice_index rows a) (2 ^ b))

unfoldable pub switched : List ℕ → ℕ → ℕ → List ℕ
switched rows a b = half_switched (half_switched rows a b) b a

-- The corners joined to both a and b, and the two lowest digits of such a word.
abbrev pub common : List ℕ → ℕ → ℕ → ℕ
common rows a b = bit_and (slice_index rows a) (slice_index rows b)

abbrev pub two_lowest : ℕ → ℕ × ℕ
two_lowest s = (count_trailing_zeros 32 s, count_trailing_zeros 32 (bit_and s (s - 1)))

-- The lowest digit of a word, and the lowest digit of a row from there on.
abbrev pub gap_of : ℕ → ℕ → ℕ × ℕ
gap_of apart row = (count_trailing_zeros 32 apart, count_trailing_zeros 32 apart + count_trailing_zeros 32 (row / 2 ^ count_trailing_zeros 32 apart))

-- The word of the corners a to b.
abbrev pub span : ℕ → ℕ → ℕ
span a b = 2 ^ (b + 1) - 2 ^ a

-- Whether corner c is joined to none but the corners a to b.
unfoldable pub stays_within : List ℕ → ℕ → ℕ → ℕ → Bool
stays_within rows a b c = bit_and (slice_index rows c) (span a b) == slice_index rows c

-- Whether no edge leaves the corners between a and b for those outside.
unfoldable pub is_free : List ℕ → ℕ → ℕ → Bool
is_free rows a b = every (b - (a + 1)) (λ i. stays_within rows a b (a + 1 + i))

-- Whether pair e is in the row of bytes exactly if it is a diagonal that no edge crosses.
unfoldable pub fits : ℕ → Code → List ℕ → ℕ → Bool
fits n v rows e =
    elim (is_diagonal n (corners_of e)) [
      | true ↦ elim (is_free rows (corners_of e).0 (corners_of e).1) [ true ↦ nat_eq (members v e) 1 | false ↦ nat_eq (members v e) 0 ]
      | false ↦ (members v e == 0)
    ]

-- The word of the corners 1 to n - 1.
abbrev pub others : ℕ → ℕ
others n = 2 ^ n - 2

-- No pair at all.
unfoldable pub bare : PairSet
bare e = 0
