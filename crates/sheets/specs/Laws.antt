-- What reading a sheet promises, in words of what was written and of the first fault.
use Rattle.std.specs.Prelude.{◌≡◌, ℕ, ◌-◌, ◌<◌, ◌≤◌, ◌↔◌, List, length, take, Some, None, Ok, Err, Result}
use Rattle.refusals.specs.declared.Refusal.TheVariants.{SheetLong}
use Rattle.items.specs.Texts.{Short, text_of}
use Rattle.items.specs.declared.line.Line.{Line}
use Rattle.maps.specs.Touch.{Touching}
use Rattle.sheets.specs.Cut.{cut}
use Rattle.sheets.specs.Faults.{fault_at, here_at, value_of}
use Rattle.sheets.specs.Reading.{Wanted, at_line, most_bytes}
use Rattle.sheets.specs.Settings.{Topic, regions, polygon}
use Rattle.sheets.specs.Written.{Content, Subject, of_regions, of_polygon, Good, written, wanted_for}
use Rattle.sheets.specs.declared.fault.Fault.{Fault}

-- two regions of the plan touch exactly if a pair line names them
abbrev pub Meant : Subject → Topic → Type 0
Meant (of_regions n ps) (regions m) = Touching ps m.rows
Meant (of_regions n ps) (polygon k) = ⊥
Meant (of_polygon n) (regions m) = ⊥
Meant (of_polygon n) (polygon k) = n ≡ k

-- a plan was asked for by these bytes
pub record Asked (bytes : List ℕ) (w : Wanted) : Type 0 where
  pub content : Content
  pub good : Good content
  pub sheet : bytes ≡ written content
  pub plan : w ≡ wanted_for content
  pub touching : Meant content.subject w.topic

-- a written sheet that is not too long is read as what was asked for, and nothing else is accepted
pub record Accepting (bytes : List ℕ) (r : Result Wanted Fault) : Type 0 where
  pub reads : (c : Content) → Good c → length bytes ≤ most_bytes → bytes ≡ written c → r ≡ Ok (wanted_for c)
  pub only : (w : Wanted) → r ≡ Ok w → Asked bytes w

-- a fault stands at the first line that has one, and is the first that applies there
pub record FirstFault (bytes : List ℕ) (f : Fault) : Type 0 where
  pub from_one : 1 ≤ f.line
  pub within : f.line - 1 ≤ length (cut bytes).lines
  pub here : fault_at (take (f.line - 1) (cut bytes).lines) (here_at (cut bytes).lines (cut bytes).rest (f.line - 1))
      ≡ Some f.refusal
  pub none_before : (i : ℕ) → i < f.line - 1
      → fault_at (take i (cut bytes).lines) (here_at (cut bytes).lines (cut bytes).rest i) ≡ None

-- too long above the most bytes and only there; otherwise the first fault. What a line's value is,
-- which some faults speak of: the line is that value written in decimal
pub record Refusing (bytes : List ℕ) (r : Result Wanted Fault) : Type 0 where
  pub long : (r ≡ Err (at_line SheetLong 0)) ↔ (most_bytes < length bytes)
  pub first : (f : Fault) → length bytes ≤ most_bytes → r ≡ Err f → FirstFault bytes f
  pub clean : (w : Wanted) → r ≡ Ok w → (i : ℕ) → i ≤ length (cut bytes).lines
      → fault_at (take i (cut bytes).lines) (here_at (cut bytes).lines (cut bytes).rest i) ≡ None
  pub values : (l : List ℕ) (x : Line) → (value_of l ≡ Some x) ↔ (Short x × (l ≡ text_of x))
