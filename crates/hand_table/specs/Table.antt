-- Small censuses worked out by hand, and the statement that the definitions of the contracts give them.
use Rattle.std.specs.Prelude.{◌≡◌, ℕ, ◌/◌, ◌%◌, List, [], ◌∷◌, map, drop, replicate, Some, slice_index, slice_set}
use Rattle.std.specs.List.{AllByRecursion}
use Rattle.digits.specs.Bits.{with_digit}
use Rattle.maps.specs.Touch.{bare}
use Rattle.sheets.specs.Written.{table_after}
use Rattle.oracle.specs.Counting.{total}
use Rattle.oracle.specs.Listing.{listing}
use Rattle.oracle.specs.Places.{objects, filled_slots}
use Rattle.oracle.specs.Setup.{Code, Setup, filled}
use Rattle.oracle.specs.Walk.{walk}
use Rattle.masks.specs.Codes.{code}
use Rattle.connected.specs.Sets.{regions_setup}
use Rattle.cap.specs.Capped.{capped}
use Rattle.pairs.specs.Pairs.{number}
use Rattle.triangulations.specs.Census.{polygon}
use Rattle.marks.specs.Layout.{block}

-- A census and what it comes to: the codes in the order of the list, and their ranks; H, which no rank
-- exceeds; N, the number of objects; D, the number of slots of each; F, the number of filled slots of all
-- objects; the steps of the walks of all places.
pub record Row : Type 0 where
  pub setup : Setup
  pub list : List Code
  pub ranks : List ℕ
  pub H : ℕ
  pub N : ℕ
  pub D : ℕ
  pub F : ℕ
  pub steps : ℕ

abbrev pub row : Setup → List Code → List ℕ → ℕ → ℕ → ℕ → ℕ → ℕ → Row
row s codes ranks h n d f steps =
    record { setup = s; list = codes; ranks = ranks; H = h; N = n; D = d; F = f; steps = steps }

-- The connected sets of n regions of which these pairs touch, as a sheet gives them.
abbrev pub regions : ℕ → List (ℕ × ℕ) → Setup
regions n pairs = regions_setup n (table_after bare pairs)

-- The codes of sets of regions, from their numbers: region i is digit i.
abbrev pub numbered : List ℕ → List Code
numbered sets = map code sets

-- The code of a set of pairs, from the pairs' numbers: e is bit e mod 8 of byte e / 8 of 35 bytes.
abbrev pub pair_set : List ℕ → Code
pair_set [] = replicate 35 0
pair_set (e ∷ es) = slice_set (pair_set es) (e / 8) (with_digit (slice_index (pair_set es) (e / 8)) (e % 8))

abbrev pub pair_sets : List (List ℕ) → List Code
pair_sets sets = map pair_set sets

-- Three regions in a row.
abbrev pub in_a_row : Setup
in_a_row = regions 3 ((0, 1) ∷ (1, 2) ∷ [])

abbrev pub r_three : Row
r_three = row in_a_row (numbered (0 ∷ 1 ∷ 2 ∷ 3 ∷ 4 ∷ 6 ∷ 7 ∷ [])) (0 ∷ 1 ∷ 1 ∷ 2 ∷ 1 ∷ 2 ∷ 3 ∷ []) 3 7 3 18 39

abbrev pub r_three_capped : Row
r_three_capped = row (capped 1 in_a_row) (numbered (0 ∷ 1 ∷ 2 ∷ 4 ∷ [])) (0 ∷ 1 ∷ 1 ∷ 1 ∷ []) 1 4 3 6 18

abbrev pub r_one : Row
r_one = row (regions 1 []) (numbered (0 ∷ 1 ∷ [])) (0 ∷ 1 ∷ []) 1 2 1 2 4

-- Ten regions of which 0 and 9 touch, the codes as rows of bytes: region i has the weight 2 to the power i, low
-- byte first.
abbrev pub r_ten : Row
r_ten =
    row (regions 10 ((0, 9) ∷ [])) (
    (0 ∷ 0 ∷ replicate 6 0)
    ∷ (1 ∷ 0 ∷ replicate 6 0)
    ∷ (2 ∷ 0 ∷ replicate 6 0)
    ∷ (4 ∷ 0 ∷ replicate 6 0)
    ∷ (8 ∷ 0 ∷ replicate 6 0)
    ∷ (16 ∷ 0 ∷ replicate 6 0)
    ∷ (32 ∷ 0 ∷ replicate 6 0)
    ∷ (64 ∷ 0 ∷ replicate 6 0)
    ∷ (128 ∷ 0 ∷ replicate 6 0)
    ∷ (0 ∷ 1 ∷ replicate 6 0)
    ∷ (0 ∷ 2 ∷ replicate 6 0)
    ∷ (1 ∷ 2 ∷ replicate 6 0)
    ∷ []
    ) (0 ∷ 1 ∷ 1 ∷ 1 ∷ 1 ∷ 1 ∷ 1 ∷ 1 ∷ 1 ∷ 1 ∷ 1 ∷ 2 ∷ []) 10 12 10 24 144

abbrev pub p_three : Row
p_three = row (polygon 3) (pair_sets ([] ∷ [])) (0 ∷ []) 0 1 3 0 3

abbrev pub p_four : Row
p_four = row (polygon 4) (pair_sets ((1 ∷ []) ∷ (4 ∷ []) ∷ [])) (0 ∷ 1 ∷ []) 1 2 6 2 14

abbrev pub p_five : Row
p_five =
    row (polygon 5) (pair_sets ((1 ∷ 3 ∷ []) ∷ (3 ∷ 4 ∷ []) ∷ (4 ∷ 7 ∷ []) ∷ (1 ∷ 8 ∷ []) ∷ (7 ∷ 8 ∷ []) ∷ [])) (0 ∷ 1 ∷ 2 ∷ 1 ∷ 2 ∷ []) 2 5 10 10 60

abbrev pub table : List Row
table = r_three ∷ r_three_capped ∷ r_one ∷ r_ten ∷ p_three ∷ p_four ∷ p_five ∷ []

-- What the definitions give for the census of a row is what the row says.
pub record Holds (r : Row) : Type 0 where
  pub list_is : listing r.setup ≡ r.list
  pub ranks_are : map r.setup.rank r.list ≡ r.ranks
  pub H-is : r.setup.height ≡ r.H
  pub N-is : objects r.setup ≡ r.N
  pub D-is : r.setup.width ≡ r.D
  pub F-is : filled_slots r.setup ≡ r.F
  pub steps_are : total (λ v. (walk r.setup v).steps) (listing r.setup) ≡ r.steps

-- Codes as rows of bytes, byte by byte, and what leads from one to the next.
pub record CodesHold : Type 0 where
  -- of 64 regions, the slot of the last one leads from the empty set to that region alone
  pub last_region : (regions 64 []).slot (replicate 8 0) 63 ≡ filled (0 ∷ 0 ∷ 0 ∷ 0 ∷ 0 ∷ 0 ∷ 0 ∷ 128 ∷ []) 63
  pub last_region_home : (regions 64 []).home (0 ∷ 0 ∷ 0 ∷ 0 ∷ 0 ∷ 0 ∷ 0 ∷ 128 ∷ []) ≡ Some 63
  -- the root of 9 corners is {1, 3, 6, 10, 15, 21}, the pairs (0, 2) to (0, 7)
  pub nine_root : (polygon 9).root ≡ 74 ∷ 132 ∷ 32 ∷ replicate 32 0
  -- in it (6, 8), which is pair 34, takes the place of (0, 7), which is pair 21, and leads home
  pub nine_slot : (polygon 9).slot (74 ∷ 132 ∷ 32 ∷ replicate 32 0) 21 ≡ filled (74 ∷ 132 ∷ 0 ∷ 0 ∷ 4 ∷ replicate 30 0) 34
  pub nine_home : (polygon 9).home (74 ∷ 132 ∷ 0 ∷ 0 ∷ 4 ∷ replicate 30 0) ≡ Some 34
  pub nine_rank : (polygon 9).rank (74 ∷ 132 ∷ 0 ∷ 0 ∷ 4 ∷ replicate 30 0) ≡ 1
  -- the root of 24 corners is the pairs (0, 2) to (0, 22): pair (0, b) has the number b (b - 1) / 2
  pub most_root : (polygon 24).root
      ≡ 74 ∷ 132 ∷ 32 ∷ 16 ∷ 16 ∷ 32 ∷ 128 ∷ 0 ∷ 4 ∷ 64 ∷ 0 ∷ 8 ∷ 0 ∷ 2 ∷ 0 ∷ 1 ∷ 0 ∷ 1 ∷ 0 ∷ 2 ∷ 0 ∷ 8 ∷ 0 ∷ 64 ∷ 0 ∷ 0 ∷ 4 ∷ 0 ∷ 128 ∷ replicate 6 0

-- Every row holds, and the codes byte by byte; pairs (1, 3) and (22, 23) have the numbers 4 and 275; regions 0 and
-- 1, whose code is that of 3, saved under job 7 give the check 87 in the last four bytes of the block.
abbrev pub HandTable : Type 0
HandTable =
    AllByRecursion Holds table × CodesHold × (number 1 3 ≡ 4) × (number 22 23 ≡ 275) × (drop 508 (block 7 in_a_row (code 3)) ≡ 87 ∷ 0 ∷ 0 ∷ 0 ∷ [])
