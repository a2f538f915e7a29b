-- The lines that a program prints, as bytes.
use Rattle.std.specs.Prelude.{ℕ, ◌+◌, ◌*◌, ◌/◌, ◌%◌, Bool, cond, List, [], ◌∷◌, ◌++◌, codes, decimal, nat_lt, Ok, Err, Result}
use Rattle.sheets.specs.Reading.{Wanted, read_all}
use Rattle.sheets.specs.Settings.{Topic, regions, polygon}
use Rattle.sheets.specs.Told.{fault_words, pairs_of}
use Rattle.sheets.specs.declared.fault.Fault.{Fault}

-- The small hexadecimal digit of a number below 16.
abbrev pub hex_digit : ℕ → ℕ
hex_digit d = cond (nat_lt d 10) (48 + d) (87 + d)

-- Two digits a byte, the high one first.
unfoldable pub hexed : List ℕ → List ℕ
hexed [] = []
hexed (b ∷ bs) = hex_digit (b / 16) ∷ (hex_digit (b % 16) ∷ hexed bs)

-- An object: its rank, and its code.
abbrev pub object_text : ℕ → List ℕ → List ℕ
object_text rank code = decimal rank ++ (32 ∷ (hexed code ++ (10 ∷ [])))

-- The room that is enough for it, with a code of n bytes: a rank has ten digits at most.
abbrev pub object_room : ℕ → ℕ
object_room n = 2 * n + 12

-- The end: whether the list is whole, the objects printed and the steps.
abbrev pub last_text : Bool → ℕ → ℕ → List ℕ
last_text whole printed steps =
    cond whole (codes "whole ") (codes "open ")
    ++ (decimal printed ++ (codes " steps " ++ (decimal steps ++ (10 ∷ []))))

-- The room that is enough for it: words of six and seven bytes, ten digits and twenty, and the end.
abbrev pub last_room : ℕ
last_room = 44

-- A fault of a sheet: its words.
abbrev pub fault_text : Fault → List ℕ
fault_text f = fault_words f ++ (10 ∷ [])

-- The room that is enough for it: words of six, six and seven bytes, a number and a layer of three digits at
-- most, ten digits of the line, and the end.
abbrev pub fault_room : ℕ
fault_room = 36

-- What a sheet is about: the letter, and the number of regions or corners.
abbrev pub subject_text : Topic → List ℕ
subject_text (regions m) = codes "R " ++ decimal m.count_of
subject_text (polygon n) = codes "P " ++ decimal n

-- What an accepted sheet asks for.
abbrev pub plan_text : Wanted → List ℕ
plan_text w =
    codes "accepted " ++ (subject_text w.topic ++ (codes " pairs " ++ (decimal (pairs_of w.topic)
    ++ (codes " cap " ++ (decimal w.cap ++ (codes " most " ++ (decimal w.most ++ (10 ∷ []))))))))

-- The room that is enough for it: a letter, a space and ten digits; and words of nine, seven, five and six
-- bytes, three numbers of ten digits at most, and the end.
abbrev pub subject_room : ℕ
subject_room = 12

abbrev pub plan_room : ℕ
plan_room = 70

-- What a sheet's bytes come to: what it asks for, or its fault.
abbrev pub verdict_text : Result Wanted Fault → List ℕ
verdict_text (Ok w) = plan_text w
verdict_text (Err f) = fault_text f

abbrev pub verdict_on : List ℕ → List ℕ
verdict_on bytes = verdict_text (read_all bytes)

-- The room that is enough for either.
abbrev pub verdict_room : ℕ
verdict_room = plan_room

-- A number; the two numbers of a tally; the number of a refusal.
abbrev pub number_text : ℕ → List ℕ
number_text n = decimal n ++ (10 ∷ [])

abbrev pub counts_text : ℕ → ℕ → List ℕ
counts_text objects steps = decimal objects ++ (codes " " ++ (decimal steps ++ (10 ∷ [])))

abbrev pub refused_text : ℕ → List ℕ
refused_text n = codes "refused " ++ (decimal n ++ (10 ∷ []))

-- The room that is enough for them: twenty digits a number, three for a refusal's.
abbrev pub number_room : ℕ
number_room = 21

abbrev pub counts_room : ℕ
counts_room = 42

abbrev pub refused_room : ℕ
refused_room = 12

-- Bytes as a line.
abbrev pub hex_text : List ℕ → List ℕ
hex_text bytes = hexed bytes ++ (10 ∷ [])

-- The room for it, with n bytes.
abbrev pub hex_room : ℕ → ℕ
hex_room n = 2 * n + 1
