-- When each fault applies, said of a line and the lines before it.
use Rattle.std.specs.Prelude.{ℕ, zero, suc, Bool, true, false, cond, not, ◌&&◌, ◌||◌, List, [], ◌∷◌, is_some, Some, None, Option, ◌==◌, nat_le}
use Rattle.std.specs.Result.{result_ok}
use Rattle.refusals.specs.declared.Refusal.{Refusal}
use Rattle.refusals.specs.declared.Refusal.TheVariants.{
  BufferShort,
  BlockSize,
  BlockCheck,
  BlockForm,
  JobDiffers,
  NotACode,
  PastEnd,
  SlotRange,
  FirstByte,
  LineForm,
  LineOrder,
  OutOfRange,
  BadPair,
  SheetShort,
  SheetLong,
}
use Rattle.items.specs.Lines.{kind_at, line_of}
use Rattle.items.specs.declared.line.Kind.{Kind}
use Rattle.items.specs.declared.line.Line.{Line}
use Rattle.items.specs.declared.line.Line.TheVariants.{Regions, Polygon, Pair, Cap, Stop}
use Rattle.maps.specs.Touch.{can_have}
use Rattle.sheets.specs.Order.{follows, stopped}
use Rattle.sheets.specs.Settings.{fewest_corners, most_corners, most_number}

-- a finished line, or what follows the last one
pub data Here : Type 0 where
  whole : List ℕ → Here
  broken : List ℕ → Here

unfoldable pub here_at : List (List ℕ) → List ℕ → ℕ → Here
here_at [] r i = broken r
here_at (l ∷ ls) r zero = whole l
here_at (l ∷ ls) r (suc i) = here_at ls r i

-- the value of a line that is well formed
abbrev pub value_of : List ℕ → Option Line
value_of l = result_ok (line_of l)

-- the kind of the line before; none before line 1
unfoldable pub last_kind : List (List ℕ) → Option Kind
last_kind [] = None
last_kind (l ∷ []) = kind_at l
last_kind (l ∷ (m ∷ ls)) = last_kind (m ∷ ls)

-- the number of regions or corners that line 1 gives, and whether it asks for a polygon
abbrev pub size_in : Option Line → ℕ
size_in None = 0
size_in (Some (Regions n)) = n
size_in (Some (Polygon n)) = n
size_in (Some (Pair a b)) = 0
size_in (Some (Cap c)) = 0
size_in (Some (Stop m)) = 0

abbrev pub polygon_in : Option Line → Bool
polygon_in None = false
polygon_in (Some (Regions n)) = false
polygon_in (Some (Polygon n)) = true
polygon_in (Some (Pair a b)) = false
polygon_in (Some (Cap c)) = false
polygon_in (Some (Stop m)) = false

abbrev pub line_one : List (List ℕ) → Option Line
line_one [] = None
line_one (l ∷ ls) = value_of l

-- a number of the line is out of its range; among n regions or corners a pair names n or more
abbrev pub outside : ℕ → Option Line → Bool
outside n None = false
outside n (Some (Regions m)) = not (can_have m)
outside n (Some (Polygon m)) = not (nat_le fewest_corners m && nat_le m most_corners)
outside n (Some (Pair a b)) = nat_le n a || nat_le n b
outside n (Some (Cap c)) = not (nat_le c most_number)
outside n (Some (Stop m)) = not (nat_le m most_number)

-- a pair of a polygon, or of a region with itself
abbrev pub unpaired : Bool → Option Line → Bool
unpaired p None = false
unpaired p (Some (Regions m)) = false
unpaired p (Some (Polygon m)) = false
unpaired p (Some (Pair a b)) = p || a == b
unpaired p (Some (Cap c)) = false
unpaired p (Some (Stop m)) = false

abbrev pub misplaced : Option Kind → Option Kind → Bool
misplaced j None = false
misplaced j (Some k) = not (follows j k)

-- whether a fault applies to a line behind others
abbrev pub applies : Refusal → List (List ℕ) → Here → Bool
applies BufferShort before h = false
applies BlockSize before h = false
applies BlockCheck before h = false
applies BlockForm before h = false
applies JobDiffers before h = false
applies NotACode before h = false
applies PastEnd before h = false
applies SlotRange before h = false
applies FirstByte before (whole l) = not (is_some (kind_at l))
applies FirstByte before (broken r) = false
applies LineForm before (whole l) = not (is_some (value_of l))
applies LineForm before (broken r) = false
applies LineOrder before (whole l) = misplaced (last_kind before) (kind_at l)
applies LineOrder before (broken r) = false
applies OutOfRange before (whole l) = outside (size_in (line_one before)) (value_of l)
applies OutOfRange before (broken r) = false
applies BadPair before (whole l) = unpaired (polygon_in (line_one before)) (value_of l)
applies BadPair before (broken r) = false
applies SheetShort before (whole l) = false
applies SheetShort before (broken r) = not (stopped (last_kind before))
applies SheetLong before h = false

-- a byte behind the full-stop line
abbrev pub behind_stop : List (List ℕ) → Here → Bool
behind_stop before (whole l) = stopped (last_kind before)
behind_stop before (broken []) = false
behind_stop before (broken (b ∷ r)) = stopped (last_kind before)

-- the order in which the faults of one line are looked for: 14, 9, 10, 11, 12, 13
abbrev pub checks : List Refusal
checks = SheetShort ∷ (FirstByte ∷ (LineForm ∷ (LineOrder ∷ (OutOfRange ∷ (BadPair ∷ [])))))

abbrev pub first_that : (Refusal → Bool) → List Refusal → Option Refusal
first_that p [] = None
first_that p (k ∷ ks) = cond (p k) (Some k) (first_that p ks)

-- the fault of a line behind others: a byte behind the full stop is out of place before all else
unfoldable pub fault_at : List (List ℕ) → Here → Option Refusal
fault_at before h = cond (behind_stop before h) (Some LineOrder) (first_that (λ k. applies k before h) checks)
