-- Masks as codes: a number below 2 ^ 64 is written as 8 bytes, low byte first.
use Rattle.std.specs.Prelude.{ℕ, zero, suc, ◌+◌, ◌*◌, ◌/◌, ◌%◌, Bool, true, false, cond, ◌&&◌, List, [], ◌∷◌, ◌++◌, length, drop, Some, None, Ok, Err, Option, Result, ◌==◌, nat_lt, slice_index}
use Rattle.digits.specs.Bits.{bit}
use Rattle.refusals.specs.declared.Refusal.{Refusal}
use Rattle.refusals.specs.declared.Refusal.TheVariants.{BufferShort}

-- the k low bytes of a number
unfoldable pub bytes : ℕ → ℕ → List ℕ
bytes zero s = []
bytes (suc k) s = s % 256 ∷ bytes k (s / 256)

-- the number that a row of bytes writes
unfoldable pub number : List ℕ → ℕ
number [] = 0
number (b ∷ bs) = b + 256 * number bs

-- digit i of a row of bytes: digit i mod 8 of byte i / 8
abbrev pub row_digit : List ℕ → ℕ → ℕ
row_digit row i = bit (slice_index row (i / 8)) (i % 8)

unfoldable pub all_bytes : List ℕ → Bool
all_bytes [] = true
all_bytes (b ∷ bs) = nat_lt b 256 && all_bytes bs

abbrev pub code : ℕ → List ℕ
code s = bytes 8 s

abbrev pub is_code : List ℕ → Bool
is_code row = length row == 8 && all_bytes row

-- the number of a row, if the row is a code
abbrev pub read_code : List ℕ → Option ℕ
read_code row = cond (is_code row) (Some (number row)) None

-- the answer and the bytes of a buffer after the code of s is written to its front
abbrev pub written_code : ℕ → List ℕ → Result (Unit {0}) Refusal × List ℕ
written_code s buffer =
    elim (nat_lt (length buffer) 8) [ true ↦ (Err BufferShort, buffer) | false ↦ (Ok tt, code s ++ drop 8 buffer) ]
