-- What the programs print, from the bytes that they are given.
use Rattle.std.specs.Prelude.{ℕ, ◌+◌, ◌*◌, List, [], ◌∷◌, ◌++◌, map, length, take, Ok, Err, codes, decimal, Result}
use Rattle.std.specs.List.{concat}
use Rattle.engine.specs.Runs.{Order, Entry, plain_run}
use Rattle.engine.specs.View.{View, begun}
use Rattle.lines.specs.Texts.{counts_room, fault_text}
use Rattle.oracle.specs.Setup.{Setup}
use Rattle.pages.specs.Lines.{all_lines, WholeSteps}
use Rattle.protocols.specs.Reading.{ordered, requests_in}
use Rattle.sheets.specs.Reading.{Wanted, read_all}
use Rattle.sheets.specs.declared.fault.Fault.{Fault}
use Rattle.printouts.specs.Answers.{entry_text}
use Rattle.printouts.specs.Plans.{plan_setup}

-- A line for each act that was carried out.
abbrev pub entries_lines : List Entry → List (List ℕ)
entries_lines es = map entry_text es

-- The acts, carried out by the plain census from a view on.
abbrev pub lines_behind : Setup → View → List Order → List (List ℕ)
lines_behind s v os = entries_lines (plain_run s v os).0

-- The acts of a protocol, carried out from the beginning.
abbrev pub acts_lines : Setup → List Order → List (List ℕ)
acts_lines s os = lines_behind s (begun s) os

abbrev pub unreadable_text : ℕ → List ℕ
unreadable_text line = codes "unreadable line " ++ (decimal line ++ (10 ∷ []))

-- A line that is unreadable keeps all acts from being carried out.
abbrev pub run_lines : Setup → Result (List Order) ℕ → List (List ℕ)
run_lines s (Ok os) = acts_lines s os
run_lines s (Err line) = unreadable_text line ∷ []

abbrev pub protocol_lines : Setup → List ℕ → List (List ℕ)
protocol_lines s acts = run_lines s (ordered (requests_in acts))

-- A sheet at fault prints its fault and nothing else.
abbrev pub replay_with : List ℕ → Result Wanted Fault → List (List ℕ)
replay_with acts (Ok w) = protocol_lines (plan_setup w) acts
replay_with acts (Err f) = fault_text f ∷ []

-- The lines that the program `replay` prints, from the bytes of a sheet and of a protocol.
abbrev pub replay_lines : List ℕ → List ℕ → List (List ℕ)
replay_lines sheet acts = replay_with acts (read_all sheet)

abbrev pub replay_text : List ℕ → List ℕ → List ℕ
replay_text sheet acts = concat (replay_lines sheet acts)

-- The room in which lines of a replay are sure to be made: that of them all, and of the longest line that is
-- no buffer's.
abbrev pub replay_room : List (List ℕ) → ℕ
replay_room lines = length (concat lines) + counts_room

-- A sheet that is accepted prints the listing of its subject under its cap.
abbrev pub plan_lines : Wanted → List (List ℕ)
plan_lines w = all_lines (plan_setup w) w.most

abbrev pub lines_of : Result Wanted Fault → List (List ℕ)
lines_of (Ok w) = plan_lines w
lines_of (Err f) = fault_text f ∷ []

-- The lines that the program `census` prints, from the bytes of a sheet.
abbrev pub sheet_lines : List ℕ → List (List ℕ)
sheet_lines sheet = lines_of (read_all sheet)

-- Where the list is printed whole, its last line has the steps of the whole list.
abbrev pub WholeOf : Result Wanted Fault → Type 0
WholeOf (Ok w) = WholeSteps (plan_setup w) w.most
WholeOf (Err f) = Unit {0}

-- The room that any line of a sheet asks for: a code of 35 bytes at most, as a line of a listing.
abbrev pub room_of_a_line : ℕ
room_of_a_line = 2 * 35 + 44

-- The room in which a page is sure to be made, and all of it.
abbrev pub sheet_room : ℕ → List (List ℕ) → ℕ
sheet_room limit left = length (concat (take limit left)) + room_of_a_line

abbrev pub room_of_all : List (List ℕ) → ℕ
room_of_all left = length (concat left) + room_of_a_line

abbrev pub census_room : List ℕ → ℕ
census_room sheet = room_of_all (sheet_lines sheet)
