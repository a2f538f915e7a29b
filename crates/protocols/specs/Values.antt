-- The numbers and the bytes that a line gives, read from what is written of them.
use Rattle.std.specs.Prelude.{ℕ, ◌+◌, ◌-◌, ◌*◌, ◌%◌, Bool, true, false, cond, ◌&&◌, ◌||◌, List, [], ◌∷◌, length, Some, None, codes, Option, ◌==◌, nat_le}
use Rattle.std.specs.List.{list_all}
use Rattle.std.specs.Str.{bytes_eq}
use Rattle.items.specs.Numerals.{number_of}

abbrev pub at_most : ℕ → Option ℕ → Option ℕ
at_most most None = None
at_most most (Some n) = elim (nat_le n most) [ true ↦ Some n | false ↦ None ]

-- a decimal number of at most ten digits that is not above `most`
unfoldable pub number_at : ℕ → List ℕ → Option ℕ
number_at most ds = at_most most (number_of 10 ds)

-- 0 to 9, and a to f
abbrev pub is_hex : ℕ → Bool
is_hex c = (nat_le 48 c && nat_le c 57) || (nat_le 97 c && nat_le c 102)

-- what a digit stands for; any other byte for 0
abbrev pub hex_value : ℕ → ℕ
hex_value c = cond (nat_le 48 c && nat_le c 57) (c - 48) (cond (nat_le 97 c && nat_le c 102) (c - 87) 0)

abbrev pub all_hex : List ℕ → Bool
all_hex ds = list_all is_hex ds

-- a byte for each two digits
unfoldable pub bytes_of : List ℕ → List ℕ
bytes_of [] = []
bytes_of (h ∷ []) = []
bytes_of (h ∷ (l ∷ cs)) = (hex_value h * 16 + hex_value l) ∷ bytes_of cs

-- at least two digits, an even number of them
abbrev pub in_pairs : List ℕ → Bool
in_pairs ds = nat_le 1 (length ds) && length ds % 2 == 0 && all_hex ds

-- the bytes that digits write, or none of them behind a hyphen
unfoldable pub bytes_at : List ℕ → Option (List ℕ)
bytes_at ds =
    elim (bytes_eq ds (codes "-")) [
      | true ↦ Some []
      | false ↦ elim (in_pairs ds) [ true ↦ Some (bytes_of ds) | false ↦ None ]
    ]

-- bytes, if there are so many of them
abbrev pub of_length : ℕ → List ℕ → Option (List ℕ)
of_length n bytes = elim (length bytes == n) [ true ↦ Some bytes | false ↦ None ]
