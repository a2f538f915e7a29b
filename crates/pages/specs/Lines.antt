-- The lines of a listing: those of the objects from a place on, until enough are printed, and then
-- the last line.
use Rattle.std.specs.Prelude.{◌≡◌, ℕ, zero, suc, ◌+◌, ◌-◌, ◌*◌, ◌≤◌, min, Bool, true, false, cond, List, [], ◌∷◌, ◌++◌, map, length, take, drop, nat_le}
use Rattle.std.specs.List.{concat}
use Rattle.oracle.specs.Counting.{total}
use Rattle.oracle.specs.Listing.{listing}
use Rattle.oracle.specs.Outcomes.{counted}
use Rattle.oracle.specs.Places.{objects, filled_slots}
use Rattle.oracle.specs.Setup.{Code, Setup}
use Rattle.oracle.specs.Walk.{Spot, on, past, walk}
use Rattle.engine.specs.View.{View}
use Rattle.lines.specs.Texts.{object_text, last_text}

-- Whether an object of this rank is printed: every object is.
abbrev pub is_printed : ℕ → Bool
is_printed rank = true

abbrev pub object_line : Setup → Code → List ℕ
object_line s v = object_text (s.rank v) v

-- The line of what stands at a spot; past the end there is none.
abbrev pub spot_line : Setup → Spot → List ℕ
spot_line s (on v) = object_line s v
spot_line s past = []

-- What an object adds to the output, and to the count of objects printed.
abbrev pub line_of : Setup → Code → List ℕ
line_of s v = cond (is_printed (s.rank v)) (object_line s v) []

abbrev pub count_of : Setup → Code → ℕ
count_of s v = cond (is_printed (s.rank v)) 1 0

abbrev pub walk_steps : Setup → Code → ℕ
walk_steps s v = (walk s v).steps

-- The objects that are gone past until n are printed.
unfoldable pub passed : Setup → ℕ → List Code → List Code
passed s zero vs = []
passed s (suc n) [] = []
passed s (suc n) (v ∷ vs) = v ∷ cond (is_printed (s.rank v)) (passed s n vs) (passed s (suc n) vs)

-- The lines from the objects vs on, while n more may be printed; k are printed by now, and t steps
-- are counted.
abbrev pub lines_from : Setup → ℕ → ℕ → ℕ → List Code → List (List ℕ)
lines_from s n k t vs =
    map (line_of s) (passed s n vs)
    ++ (last_text (nat_le (length vs) (length (passed s n vs))) (k + total (count_of s) (passed s n vs)) (counted (t + total (walk_steps s) (passed s n vs)))
    ∷ [])

-- The most room that a line of a listing asks for.
abbrev pub line_room : Setup → ℕ
line_room s = 2 * s.size + 44

-- The room in which a page is sure to be made: that of its lines and of one line more.
abbrev pub page_room : Setup → ℕ → List (List ℕ) → ℕ
page_room s limit left = length (concat (take limit left)) + line_room s

-- The lines left of a listing of at most so many objects: none behind the last line.
abbrev pub left_at : Setup → View → ℕ → ℕ → Bool → List (List ℕ)
left_at s v most printed true = []
left_at s v most printed false =
    lines_from s (most - printed) printed v.tally.steps (drop (v.stand.place - 1) (listing s))

-- The steps in the last line: those of the walks from all objects printed.
abbrev pub steps_of : Setup → ℕ → ℕ
steps_of s most = counted (total (walk_steps s) (take most (listing s)))

-- All lines: those of the places 1 to min(N, M), each once, and the last line.
abbrev pub all_lines : Setup → ℕ → List (List ℕ)
all_lines s most =
    map (object_line s) (take most (listing s))
    ++ (last_text (nat_le (objects s) most) (min (objects s) most) (steps_of s most) ∷ [])

-- The room in which the lines left are sure to be made, and that for a whole listing.
abbrev pub rest_room : Setup → List (List ℕ) → ℕ
rest_room s left = length (concat left) + line_room s

abbrev pub list_room : Setup → ℕ → ℕ
list_room s most = rest_room s (all_lines s most)

-- The steps of a whole list.
abbrev pub WholeSteps : Setup → ℕ → Type 0
WholeSteps s most = objects s ≤ most → steps_of s most ≡ counted (objects s * s.width + filled_slots s)
