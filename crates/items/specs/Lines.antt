-- What one finished line says: a letter of five, then one number, or two behind the hyphen, each
-- behind a single space, and nothing else.
use Rattle.std.specs.Prelude.{ℕ, cond, List, [], ◌∷◌, Some, None, Ok, Err, Option, Result, ◌==◌}
use Rattle.refusals.specs.declared.Refusal.{Refusal}
use Rattle.refusals.specs.declared.Refusal.TheVariants.{FirstByte, LineForm}
use Rattle.items.specs.Items.{Part, letter, number, break, part_at}
use Rattle.items.specs.Numerals.{numeral_of}
use Rattle.items.specs.declared.line.Kind.{Kind}
use Rattle.items.specs.declared.line.Kind.TheVariants as kind
use Rattle.items.specs.declared.line.Line.{Line}
use Rattle.items.specs.declared.line.Line.TheVariants as line

-- the five letters: R P - C and the full stop
abbrev pub kind_of : ℕ → Option Kind
kind_of b =
    cond (b == 82) (Some kind.Regions)
    (cond (b == 80) (Some kind.Polygon)
    (cond (b == 45) (Some kind.Pair)
    (cond (b == 67) (Some kind.Cap)
    (cond (b == 46) (Some kind.Stop) None))))

-- what a line is about
abbrev pub kind_of_line : Line → Kind
kind_of_line (line.Regions n) = kind.Regions
kind_of_line (line.Polygon n) = kind.Polygon
kind_of_line (line.Pair a b) = kind.Pair
kind_of_line (line.Cap c) = kind.Cap
kind_of_line (line.Stop m) = kind.Stop

-- the same, by its first byte
abbrev pub kind_at : List ℕ → Option Kind
kind_at [] = None
kind_at (b ∷ bs) = kind_of b

abbrev pub kind_in : Part → Option Kind
kind_in (letter b) = kind_of b
kind_in (number ds) = None
kind_in break = None

abbrev pub number_in : Part → Option ℕ
number_in (letter b) = None
number_in (number ds) = numeral_of ds
number_in break = None

-- a line that is complete, if its break is the next item
abbrev pub ended : Part → Line → Option Line
ended (letter b) x = None
ended (number ds) x = None
ended break x = Some x

-- a pair line behind its first number
abbrev pub paired : ℕ → List ℕ → ℕ → Option Line
paired a l at =
    elim (number_in (part_at l at).0) [
      | None ↦ None
      | Some b ↦ ended (part_at l (part_at l at).1).0 (line.Pair a b)
    ]

-- a line behind its first number
abbrev pub numbered : Kind → ℕ → List ℕ → ℕ → Option Line
numbered kind.Regions a l at = ended (part_at l at).0 (line.Regions a)
numbered kind.Polygon a l at = ended (part_at l at).0 (line.Polygon a)
numbered kind.Pair a l at = paired a l at
numbered kind.Cap a l at = ended (part_at l at).0 (line.Cap a)
numbered kind.Stop a l at = ended (part_at l at).0 (line.Stop a)

-- a line behind its letter
abbrev pub lettered : Kind → List ℕ → ℕ → Option Line
lettered k l at =
    elim (number_in (part_at l at).0) [ None ↦ None | Some a ↦ numbered k a l (part_at l at).1 ]

abbrev pub well_formed : Option Line → Result Line Refusal
well_formed None = Err LineForm
well_formed (Some x) = Ok x

-- the line's value, or what is wrong with it: its first byte, or the rest
unfoldable pub line_of : List ℕ → Result Line Refusal
line_of l =
    elim (kind_in (part_at l 0).0) [ None ↦ Err FirstByte | Some k ↦ well_formed (lettered k l (part_at l 0).1) ]
