-- The connected sets of n regions as a family of masks: objects, slots, home and rank in words of members.
use Rattle.std.specs.Prelude.{◌≡◌, ℕ, ◌^◌, ◌<◌, Bool, cond, ◌&&◌, List, length, Some, None, Option, ◌==◌, bit_xor, nat_lt}
use Rattle.std.specs.List.{AllByRecursion}
use Rattle.digits.specs.Bits.{bit, count}
use Rattle.oracle.specs.Setup.{Setup}
use Rattle.masks.specs.Codes.{number}
use Rattle.masks.specs.Family.{Family, coded}
use Rattle.masks.specs.Pick.{least}
use Rattle.connected.specs.Connected.{Connected, is_connected}

-- A set of regions below n, any two of whose members are joined by a chain of members.
abbrev pub RegionSet : ℕ → List ℕ → ℕ → Type 0
RegionSet n t s = (s < 2 ^ n) × Connected t s

unfoldable pub is_set : ℕ → List ℕ → ℕ → Bool
is_set n t s = nat_lt s (2 ^ n) && is_connected t s

-- s with region j put in if it is no member, and taken out if it is
abbrev pub turned : ℕ → ℕ → ℕ
turned s j = bit_xor s (2 ^ j)

-- Slot j is filled if turning region j gives an object; the same slot leads back.
unfoldable pub set_slot : ℕ → List ℕ → ℕ → ℕ → Option (ℕ × ℕ)
set_slot n t s j = cond (is_set n t (turned s j)) (Some (turned s j, j)) None

-- region i is a member, and its removal leaves an object
unfoldable pub can_leave : ℕ → List ℕ → ℕ → ℕ → Bool
can_leave n t s i = bit s i == 1 && is_set n t (turned s i)

-- the smallest member whose removal leaves an object
unfoldable pub set_home : ℕ → List ℕ → ℕ → Option ℕ
set_home n t s = least (can_leave n t s) n

-- how many members there are
unfoldable pub set_rank : ℕ → ℕ → ℕ
set_rank n s = count n (bit s)

-- The root is the empty set.
abbrev pub region_sets : ℕ → List ℕ → Family
region_sets n t =
    record {
      width = n;
      height = n;
      root = 0;
      object = is_set n t;
      slot = set_slot n t;
      home = set_home n t;
      rank = set_rank n;
    }

-- the set-up of a map of n regions with the touch table t
abbrev pub regions_setup : ℕ → List ℕ → Setup
regions_setup n t = coded (region_sets n t)

-- The textbook, of codes: a row of 8 bytes whose number is such a set.
abbrev pub RegionCode : ℕ → List ℕ → List ℕ → Type 0
RegionCode n t row = (length row ≡ 8) × AllByRecursion (λ b. b < 256) row × RegionSet n t (number row)
