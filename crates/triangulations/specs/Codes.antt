-- The code of a set of pairs: 35 bytes, pair e being bit e mod 8, from the lowest, of byte e / 8 rounded
-- down.
use Rattle.std.specs.Prelude.{◌≡◌, ℕ, ◌+◌, ◌*◌, ◌/◌, ◌%◌, ◌^◌, ◌<◌, Bool, ◌&&◌, map, length, ◌==◌, slice_index}
use Rattle.std.specs.List.{range_with_len, AllByRecursion}
use Rattle.digits.specs.Bits.{bit, count}
use Rattle.masks.specs.Codes.{all_bytes}
use Rattle.oracle.specs.Setup.{Code}
use Rattle.triangulations.specs.Textbook.{PairSet}

-- The set that a code stands for.
unfoldable pub members : Code → PairSet
members v e = bit (slice_index v (e / 8)) (e % 8)

-- Byte k of the code of a set.
unfoldable pub byte_of : PairSet → ℕ → ℕ
byte_of S k = count 8 (λ i. S (8 * k + i) * 2 ^ i)

unfoldable pub code_of : PairSet → Code
code_of S = map (byte_of S) (range_with_len 0 35)

-- A row of 35 bytes.
pub record Row (v : Code) : Type 0 where
  pub size : length v ≡ 35
  pub bytes : AllByRecursion (λ b. b < 256) v

unfoldable pub is_row : Code → Bool
is_row v = length v == 35 && all_bytes v
