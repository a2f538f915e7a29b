-- What is proved of the set-up of the triangulations of a polygon with n corners.
use Rattle.std.specs.Prelude.{◌≡◌, ℕ, ◌-◌, ◌*◌, ◌/◌, ◌<◌, ◌≤◌, min, max, ◌↔◌, Some, None, Option, Decides, ◌≢◌}
use Rattle.oracle.specs.Laws.{Object, Lawful}
use Rattle.oracle.specs.Setup.{Code, Setup, vacant, filled}
use Rattle.triangulations.specs.Codes.{Row}
use Rattle.triangulations.specs.Polygon.{Diagonal}
use Rattle.triangulations.specs.Textbook.{PairSet, Triangulation, bits, PairOf, CornerInside, CornerOutside, LeadsHome, OffCorner}

-- The objects are exactly the rows of 35 bytes whose pairs are a triangulation.
abbrev pub ObjectsDecided : ℕ → Setup → Type 0
ObjectsDecided n s = (v : Code) → Decides (s.object v) (Row v × Triangulation n (bits v))

-- The members of the root are the diagonals at corner 0.
abbrev pub RootTold : ℕ → Setup → Type 0
RootTold n s = (e : ℕ) → (bits s.root e ≡ 1) ↔ ((b : ℕ) × Diagonal n (0, b) × PairOf n e 0 b)

-- Exactly one number has the property.
pub record ExactlyOne (P : ℕ → Type 0) : Type 0 where
  pub the_one : ℕ
  pub has_it : P the_one
  pub only : (c : ℕ) → P c → c ≡ the_one

-- On each side of pair e exactly one corner forms a triangle with the pair's corners.
pub record TwoTriangles (n : ℕ) (S : PairSet) (e : ℕ) : Type 0 where
  pub a : ℕ
  pub b : ℕ
  pub pair : PairOf n e a b
  pub on_one_side : ExactlyOne (CornerInside n S a b)
  pub on_the_other : ExactlyOne (CornerOutside n S a b)

abbrev pub TrianglesFound : ℕ → Setup → Type 0
TrianglesFound n s = (v : Code) → Object s v → (e : ℕ) → bits v e ≡ 1 → TwoTriangles n (bits v) e

-- Slot e of v is filled: the neighbour has the diagonal between the corners c and d in place of pair e, and this
-- diagonal's number is the return slot.
pub record Replaced (n : ℕ) (s : Setup) (v : Code) (e c d : ℕ) : Type 0 where
  pub neighbour : Code
  pub diagonal : ℕ
  pub between : PairOf n diagonal (min c d) (max c d)
  pub slot : s.slot v e ≡ filled neighbour diagonal
  pub taken_out : bits neighbour e ≡ 0
  pub put_in : bits neighbour diagonal ≡ 1
  pub kept : (x : ℕ) → x ≢ e → x ≢ diagonal → bits neighbour x ≡ bits v x

-- The slots of the members are filled, each with its diagonal replaced by the one between the two corners that
-- form triangles with it.
abbrev pub SlotsFilled : ℕ → Setup → Type 0
SlotsFilled n s =
    (v : Code) → Object s v → (e : ℕ) → bits v e ≡ 1 → (a b c d : ℕ) → PairOf n e a b
    → CornerInside n (bits v) a b c → CornerOutside n (bits v) a b d → Replaced n s v e c d

abbrev pub SlotsVacant : Setup → Type 0
SlotsVacant s = (v : Code) → Object s v → (e : ℕ) → bits v e ≢ 1 → s.slot v e ≡ vacant

-- The answer is the smallest number with the property, and none exactly if no number has it.
pub record Smallest (P : ℕ → Type 0) (answer : Option ℕ) : Type 0 where
  pub is_some : (e : ℕ) → (answer ≡ Some e) ↔ (P e × ((d : ℕ) → P d → e ≤ d))
  pub is_none : (answer ≡ None) ↔ ((e : ℕ) → P e → ⊥)

-- The home slot is the smallest pair that leads home.
abbrev pub HomeTold : ℕ → Setup → Type 0
HomeTold n s = (v : Code) → Object s v → Smallest (LeadsHome n (bits v)) (s.home v)

-- Exactly k numbers have the property: in ascending order they are nth 0 to nth (k - 1).
pub record HowMany (P : ℕ → Type 0) (k : ℕ) : Type 0 where
  pub nth : ℕ → ℕ
  pub each : (i : ℕ) → i < k → P (nth i)
  pub ascending : (i j : ℕ) → i < j → j < k → nth i < nth j
  pub all : (e : ℕ) → P e → (i : ℕ) × (i < k) × (nth i ≡ e)

-- The rank is the number of members that do not end at corner 0.
abbrev pub RankTold : ℕ → Setup → Type 0
RankTold n s = (v : Code) → Object s v → HowMany (OffCorner n (bits v)) (s.rank v)

-- All of it, for a polygon of 3 to 24 corners.
pub record Stands (n : ℕ) (s : Setup) : Type 0 where
  pub lawful : Lawful s
  pub width : s.width ≡ n * (n - 1) / 2
  pub size : s.size ≡ 35
  pub height : s.height ≡ n - 3
  pub objects : ObjectsDecided n s
  pub root : RootTold n s
  pub triangles : TrianglesFound n s
  pub slots : SlotsFilled n s
  pub vacancies : SlotsVacant s
  pub home : HomeTold n s
  pub rank : RankTold n s
