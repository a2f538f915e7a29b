-- Which number decimal digits write: no leading zero except in 0 itself, and in a numeral one to
-- seven digits.
use Rattle.std.specs.Prelude.{◌≡◌, ℕ, ◌+◌, ◌-◌, ◌*◌, ◌^◌, ◌<◌, ◌≤◌, ◌↔◌, decimal, Bool, true, false, not, ◌&&◌, ◌||◌, List, [], ◌∷◌, length, Some, None, Option, ◌==◌, nat_le, slice_index}
use Rattle.std.specs.Char.{is_ascii_digit}

-- the most digits that a numeral has
abbrev pub most_digits : ℕ
most_digits = 7

-- the number that digits write after those that wrote n; none where a byte is no digit
abbrev pub read_on : ℕ → List ℕ → Option ℕ
read_on n [] = Some n
read_on n (b ∷ bs) = elim (is_ascii_digit b) [ true ↦ read_on (n * 10 + (b - 48)) bs | false ↦ None ]

-- one to `most` bytes, of which the first is 0 only if it is the only one
abbrev pub trim : ℕ → List ℕ → Bool
trim most bs = nat_le 1 (length bs) && nat_le (length bs) most && (not (slice_index bs 0 == 48) || length bs == 1)

-- the number that at most so many digits write
abbrev pub number_of : ℕ → List ℕ → Option ℕ
number_of most bs = elim (trim most bs) [ true ↦ read_on 0 bs | false ↦ None ]

abbrev pub numeral_of : List ℕ → Option ℕ
numeral_of bs = number_of most_digits bs

-- bytes write a number of at most so many digits exactly if they are its decimal
abbrev pub Writes : ℕ → List ℕ → Option ℕ → Type 0
Writes most bs o = (v : ℕ) → (o ≡ Some v) ↔ ((1 ≤ most) × (v < 10 ^ most) × (bs ≡ decimal v))
