-- Sets of regions as numbers: region i is a member of s where digit i of s is 1. What connected means,
-- and a test that computes.
use Rattle.std.specs.Prelude.{◌≡◌, ℕ, zero, suc, ◌^◌, ◌≤◌, Bool, true, false, ◌||◌, List, ◌==◌, bit_and, bit_or, bit_xor, slice_index}
use Rattle.std.specs.Int.Count.{count_trailing_zeros}
use Rattle.digits.specs.Bits.{bit}
use Rattle.maps.specs.Touch.{touches}

abbrev pub Member : ℕ → ℕ → Type 0
Member s i = bit s i ≡ 1

-- every member of g is one of s
abbrev pub Within : ℕ → ℕ → Type 0
Within g s = (j : ℕ) → bit g j ≤ bit s j

-- Regions i and j are joined by a chain of members of s, each touching the next. Every link is a member:
-- a chain that leaves the set does not count.
pub data Chain (t : List ℕ) (s : ℕ) : ℕ → ℕ → Type 0 where
  here : {i : ℕ} → Member s i → Chain t s i i
  onward : {i j k : ℕ} → Chain t s i j → touches t j k ≡ 1 → Member s k → Chain t s i k

-- Any two of the ends are joined by a chain of members of s.
abbrev pub Joined : List ℕ → ℕ → ℕ → Type 0
Joined t s ends = (i j : ℕ) → Member ends i → Member ends j → Chain t s i j

-- Any two members are joined by a chain of members: so the empty set is connected too.
abbrev pub Connected : List ℕ → ℕ → Type 0
Connected t s = Joined t s s

-- The members of s that are reached from those of `seen`: at each turn the lowest member whose touching
-- regions are not looked at yet lets in those of them that are members of s.
unfoldable pub reached : ℕ → List ℕ → ℕ → ℕ → ℕ → ℕ
reached zero t s seen done = seen
reached (suc turns) t s seen done =
    elim (seen == done) [
      | true ↦ seen
      | false ↦
          let i = count_trailing_zeros 64 (bit_xor seen done) in
          reached turns t s (bit_or seen (bit_and (slice_index t i) s)) (bit_or done (2 ^ i))
    ]

-- The empty set, or a set all of whose members are reached from the lowest.
unfoldable pub is_connected : List ℕ → ℕ → Bool
is_connected t s = s == 0 || reached 64 t s (2 ^ count_trailing_zeros 64 s) 0 == s
