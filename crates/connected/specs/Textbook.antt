-- The set-up of a map in the words of the rules, over rows of bytes: which regions are members, and what
-- slots, home slots, ranks and the root are then.
use Rattle.std.specs.Prelude.{◌≡◌, ℕ, ◌<◌, ◌⊎◌, ◌↔◌, ◌≢◌, List, Some, None}
use Rattle.std.specs.List.{AllByRecursion}
use Rattle.digits.specs.Bits.{bit, count}
use Rattle.oracle.specs.Setup.{Code, Setup, filled}
use Rattle.masks.specs.Codes.{number, row_digit}
use Rattle.connected.specs.Sets.{RegionCode}

-- region i is a member of the set that a row writes: bit i mod 8 of byte i / 8 is 1
abbrev pub InRow : Code → ℕ → Type 0
InRow row i = row_digit row i ≡ 1

-- u is v without its member i
pub record Without (v : Code) (i : ℕ) (u : Code) : Type 0 where
  pub member : InRow v i
  pub gone : ¬ InRow u i
  pub others : (j : ℕ) → (j ≢ i) → InRow u j ↔ InRow v j

-- u is v with region i taken out if it is a member, and put in if it is not
abbrev pub Turned : Code → ℕ → Code → Type 0
Turned v i u = Without v i u ⊎ Without u i v

-- i is a member of v whose removal leaves an object
abbrev pub CanLeave : ℕ → List ℕ → Code → ℕ → Type 0
CanLeave n t v i = (u : Code) × Without v i u × RegionCode n t u

pub record Textbook (n : ℕ) (t : List ℕ) (s : Setup) : Type 0 where
  pub width : s.width ≡ n
  pub height : s.height ≡ n
  pub size : s.size ≡ 8
  -- the members of a row are the digits of its number
  pub digits : (row : Code) → AllByRecursion (λ b. b < 256) row → (i : ℕ) → bit (number row) i ≡ row_digit row i
  -- a slot is filled exactly if turning its region gives an object, and the same slot leads back
  pub slots : (v w : Code) (j k : ℕ) → RegionCode n t v → j < n → (s.slot v j ≡ filled w k) ↔ (Turned v j w × RegionCode n t w × (k ≡ j))
  -- the home slot is the smallest member whose removal leaves an object
  pub home : (v : Code) (h : ℕ) → RegionCode n t v → (s.home v ≡ Some h) ↔ (CanLeave n t v h × ((i : ℕ) → i < h → ¬ CanLeave n t v i))
  pub homeless : (v : Code) → RegionCode n t v → (s.home v ≡ None) ↔ ((i : ℕ) → ¬ CanLeave n t v i)
  -- the rank is the number of members
  pub rank : (v : Code) → RegionCode n t v → s.rank v ≡ count n (row_digit v)
  -- the root is the empty set
  pub root : RegionCode n t s.root × ((i : ℕ) → ¬ InRow s.root i)
