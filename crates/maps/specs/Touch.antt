-- The touch table of a map of regions, pair by pair: digit j of row i is 1 where regions i and j touch.
use Rattle.std.specs.Prelude.{◌≡◌, ℕ, zero, suc, ◌+◌, ◌≤◌, Bool, cond, ◌&&◌, ◌||◌, ◌⊎◌, ◌↔◌, List, [], ◌∷◌, replicate, Some, None, Ok, Err, Option, Result, ◌==◌, nat_le, slice_index, slice_set}
use Rattle.refusals.specs.declared.Refusal.{Refusal}
use Rattle.refusals.specs.declared.Refusal.TheVariants.{OutOfRange, BadPair}
use Rattle.digits.specs.Bits.{bit, count, with_digit}

-- a map has 1 to 64 regions
abbrev pub most_regions : ℕ
most_regions = 64

abbrev pub can_have : ℕ → Bool
can_have n = nat_le 1 n && nat_le n most_regions

-- the number of regions, and the table with one row of digits for each region there can be
pub record Regions : Type 0 where
  pub count_of : ℕ
  pub rows : List ℕ

-- the digit that says whether region i touches region j
abbrev pub touches : List ℕ → ℕ → ℕ → ℕ
touches t i j = bit (slice_index t i) j

-- touching is mutual, and no region past the last touches any
abbrev pub Mutual : List ℕ → Type 0
Mutual t = (i j : ℕ) → touches t i j ≡ touches t j i

abbrev pub Inside : ℕ → List ℕ → Type 0
Inside n t = (i j : ℕ) → n ≤ j → touches t i j ≡ 0

-- before any pair is given
unfoldable pub bare : List ℕ
bare = replicate 64 0

-- with region a entered as touching b
abbrev pub entered : List ℕ → ℕ → ℕ → List ℕ
entered t a b = slice_set t a (with_digit (slice_index t a) b)

-- the table after one pair more, entered both ways
unfoldable pub with_pair : List ℕ → ℕ → ℕ → List ℕ
with_pair t a b = entered (entered t a b) b a

-- what is wrong with a pair among n regions
abbrev pub pair_fault : ℕ → ℕ → ℕ → Option Refusal
pair_fault n a b = cond (nat_le n a || nat_le n b) (Some OutOfRange) (cond (a == b) (Some BadPair) None)

-- the answer and the regions after one pair is offered: a refused pair changes nothing
abbrev pub offered : Regions → ℕ → ℕ → Result (Unit {0}) Refusal × Regions
offered m a b =
    elim (pair_fault m.count_of a b) [
      | None ↦ (Ok tt, record { count_of = m.count_of; rows = with_pair m.rows a b })
      | Some k ↦ (Err k, m)
    ]

-- n regions of which none touch, or the refusal of that number
abbrev pub begun : ℕ → Result Regions Refusal
begun n = cond (can_have n) (Ok (record { count_of = n; rows = bare })) (Err OutOfRange)

-- the regions after a list of pairs, or the refusal of the first pair that is refused
unfoldable pub after_pairs : Regions → List (ℕ × ℕ) → Result Regions Refusal
after_pairs m [] = Ok m
after_pairs m (p ∷ ps) =
    elim (pair_fault m.count_of p.0 p.1) [
      | None ↦ after_pairs (record { count_of = m.count_of; rows = with_pair m.rows p.0 p.1 }) ps
      | Some k ↦ Err k
    ]

abbrev pub map_from : ℕ → List (ℕ × ℕ) → Result Regions Refusal
map_from n ps = elim (begun n) [ Ok m ↦ after_pairs m ps | Err k ↦ Err k ]

-- a pair names two regions, either way round; some pair of a list does
abbrev pub Names : ℕ × ℕ → ℕ → ℕ → Type 0
Names p i j = ((p.0 ≡ i) × (p.1 ≡ j)) ⊎ ((p.0 ≡ j) × (p.1 ≡ i))

abbrev pub Named : List (ℕ × ℕ) → ℕ → ℕ → Type 0
Named [] i j = ⊥
Named (p ∷ ps) i j = Names p i j ⊎ Named ps i j

-- two regions touch exactly if one of the pairs given names them
abbrev pub Touching : List (ℕ × ℕ) → List ℕ → Type 0
Touching ps t = (i j : ℕ) → (touches t i j ≡ 1) ↔ Named ps i j

-- how many pairs of regions i < j < n touch
unfoldable pub pair_total : List ℕ → ℕ → ℕ
pair_total t zero = 0
pair_total t (suc j) = count j (touches t j) + pair_total t j
