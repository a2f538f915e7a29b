-- Numbers in rows of bytes, low byte first.
use Rattle.std.specs.Prelude.{ℕ, ◌+◌, ◌*◌, ◌/◌, ◌%◌, List, [], ◌∷◌, slice_index}

abbrev pub byte : List ℕ → ℕ → ℕ
byte row i = slice_index row i

-- the number in two bytes from byte i on
abbrev pub two_at : List ℕ → ℕ → ℕ
two_at row i = byte row i + byte row (i + 1) * 256

-- the number in four bytes from byte i on
abbrev pub four_at : List ℕ → ℕ → ℕ
four_at row i =
    byte row i + byte row (i + 1) * 256 + byte row (i + 2) * 65536 + byte row (i + 3) * 16777216

abbrev pub two_bytes : ℕ → List ℕ
two_bytes n = n % 256 ∷ n / 256 % 256 ∷ []

abbrev pub four_bytes : ℕ → List ℕ
four_bytes n = n % 256 ∷ n / 256 % 256 ∷ n / 65536 % 256 ∷ n / 16777216 % 256 ∷ []
