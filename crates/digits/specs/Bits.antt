-- A number as a row of binary digits: what the contracts cite. Assumes nothing.
use Rattle.std.specs.Prelude.{ℕ, zero, suc, ◌+◌, ◌/◌, ◌%◌, ◌^◌, cond, bit_or, bit_xor, nat_lt}

-- The digit of s with weight 2 ^ i: 0 or 1.
unfoldable pub bit : ℕ → ℕ → ℕ
bit s i = s / 2 ^ i % 2

-- The sum of f 0 to f (k - 1): where each value is 0 or 1, how many of them are 1.
unfoldable pub count : ℕ → (ℕ → ℕ) → ℕ
count zero f = 0
count (suc k) f = f k + count k f

-- A word of 64 digits with digit i set, and with digit i turned: a word has no digit past 63, so there it stays as it is.
abbrev pub with_digit : ℕ → ℕ → ℕ
with_digit s i = cond (nat_lt i 64) (bit_or s (2 ^ i)) s

abbrev pub flip_digit : ℕ → ℕ → ℕ
flip_digit s i = cond (nat_lt i 64) (bit_xor s (2 ^ i)) s
