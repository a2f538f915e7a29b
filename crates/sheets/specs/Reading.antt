-- How a sheet is read: one function a line and a fold over the lines.
use Rattle.std.specs.Prelude.{ℕ, ◌+◌, true, false, List, [], ◌∷◌, length, take, Some, None, Ok, Err, Option, Result, nat_le}
use Rattle.std.specs.Option.{unwrap_or}
use Rattle.refusals.specs.declared.Refusal.{Refusal}
use Rattle.refusals.specs.declared.Refusal.TheVariants.{LineOrder, SheetShort, SheetLong}
use Rattle.items.specs.Faults.{line_read}
use Rattle.sheets.specs.Cut.{cut}
use Rattle.sheets.specs.Order.{stopped}
use Rattle.sheets.specs.Settings.{Settings, Topic, unset, height_of, after_line}
use Rattle.sheets.specs.declared.fault.Fault.{Fault}

-- the most bytes that a sheet has
abbrev pub most_bytes : ℕ
most_bytes = 65536

-- as much of some bytes as decides what they are read as: one more than a sheet has is too long
abbrev pub enough : List ℕ → List ℕ
enough xs = take (most_bytes + 1) xs

-- what an accepted sheet asks for: the subject, the cap, the most objects to print
pub record Wanted : Type 0 where
  pub topic : Topic
  pub cap : ℕ
  pub most : ℕ

abbrev pub at_line : Refusal → ℕ → Fault
at_line k n = record { refusal = k; line = n }

abbrev pub faulted : {X : Type 0} → Result X Refusal → ℕ → Result X Fault
faulted (Ok x) n = Ok x
faulted (Err k) n = Err (at_line k n)

-- the settings after the bytes of the finished line of that number. A fault of a line that is read has the line
-- of its place: what is wrong with the bytes stands at the item at fault, what is wrong with the line at its letter.
-- Behind the full stop nothing may stand, and no line is read: the fault has the line's number
unfoldable pub after_bytes : Settings → List ℕ → ℕ → Result Settings Fault
after_bytes s l n =
    elim (stopped s.last) [
      | true ↦ Err (at_line LineOrder n)
      | false ↦ elim (line_read l n) [
        | Ok x ↦ faulted (after_line s x.value) x.place.line
        | Err k ↦ Err (at_line k.value k.place.line)
      ]
    ]

-- without a C line the cap is the subject's height
abbrev pub wanted_by : Settings → Option Topic → Result Wanted Refusal
wanted_by s None = Err SheetShort
wanted_by s (Some t) = Ok (record { topic = t; cap = unwrap_or s.cap (height_of t); most = s.most })

-- what is wanted where no finished line is left, and what follows the last one
abbrev pub at_end : Settings → List ℕ → Result Wanted Refusal
at_end s [] = elim (stopped s.last) [ true ↦ wanted_by s s.topic | false ↦ Err SheetShort ]
at_end s (b ∷ r) = elim (stopped s.last) [ true ↦ Err LineOrder | false ↦ Err SheetShort ]

unfoldable pub read_from : ℕ → Settings → List (List ℕ) → List ℕ → Result Wanted Fault
read_from n s [] r = faulted (at_end s r) n
read_from n s (l ∷ ls) r = elim (after_bytes s l n) [ Ok t ↦ read_from (n + 1) t ls r | Err f ↦ Err f ]

-- the sheet's plan, or its first fault
unfoldable pub read_all : List ℕ → Result Wanted Fault
read_all bs =
    elim (nat_le (length bs) most_bytes) [
      | true ↦ read_from 1 unset (cut bs).lines (cut bs).rest
      | false ↦ Err (at_line SheetLong 0)
    ]
