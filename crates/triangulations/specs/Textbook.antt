-- What a triangulation is, and what its pairs, its triangles and its way home are.
use Rattle.std.specs.Prelude.{◌≡◌, ℕ, ◌+◌, ◌-◌, ◌*◌, ◌/◌, ◌%◌, ◌^◌, ◌<◌, ◌⊎◌, List, slice_index}
use Rattle.pairs.specs.Pairs.{corners_of}
use Rattle.triangulations.specs.Polygon.{Side, Diagonal, Cross}

-- A set of pairs: 1 at the numbers of its members, 0 at all others.
abbrev pub PairSet : Type 0
PairSet = ℕ → ℕ

-- A set of diagonals of which no two cross and to which no further diagonal can be added.
pub record Triangulation (n : ℕ) (S : PairSet) : Type 0 where
  pub only_diagonals : (e : ℕ) → S e ≡ 1 → Diagonal n (corners_of e)
  pub none_cross : (e f : ℕ) → S e ≡ 1 → S f ≡ 1 → Cross (corners_of e) (corners_of f) → ⊥
  pub none_missing : (e : ℕ) → Diagonal n (corners_of e)
      → ((f : ℕ) → S f ≡ 1 → Cross (corners_of e) (corners_of f) → ⊥) → S e ≡ 1

-- The set of a row of bytes: pair e is a member if bit e mod 8, from the lowest, of byte e / 8 rounded down is 1.
abbrev pub bits : List ℕ → PairSet
bits v = λ e. slice_index v (e / 8) / 2 ^ (e % 8) % 2

-- Pair e is the pair (a, b) of the n corners.
abbrev pub PairOf : ℕ → ℕ → ℕ → ℕ → Type 0
PairOf n e a b = (a < b) × (b < n) × (e ≡ b * (b - 1) / 2 + a)

-- The pair (a, b) of the n corners is a side or a member.
abbrev pub SideOrMember : ℕ → PairSet → ℕ → ℕ → Type 0
SideOrMember n S a b = (a < b) × (b < n) × (Side n (a, b) ⊎ (S (b * (b - 1) / 2 + a) ≡ 1))

-- Corner c forms a triangle with a and b, and lies between them, or not between them.
abbrev pub CornerInside : ℕ → PairSet → ℕ → ℕ → ℕ → Type 0
CornerInside n S a b c = SideOrMember n S a c × SideOrMember n S c b

abbrev pub CornerOutside : ℕ → PairSet → ℕ → ℕ → ℕ → Type 0
CornerOutside n S a b c =
    (SideOrMember n S c a × SideOrMember n S c b) ⊎ (SideOrMember n S a c × SideOrMember n S b c)

-- Pair e = (a, b) is a member with a > 0, and (0, a) and (0, b) are each a side or a member.
pub record LeadsHome (n : ℕ) (S : PairSet) (e : ℕ) : Type 0 where
  pub a : ℕ
  pub b : ℕ
  pub pair : PairOf n e a b
  pub member : S e ≡ 1
  pub away : 0 < a
  pub first : SideOrMember n S 0 a
  pub second : SideOrMember n S 0 b

-- Pair e is a member that does not end at corner 0.
pub record OffCorner (n : ℕ) (S : PairSet) (e : ℕ) : Type 0 where
  pub a : ℕ
  pub b : ℕ
  pub pair : PairOf n e a b
  pub member : S e ≡ 1
  pub away : 0 < a
