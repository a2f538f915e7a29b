-- Lines as they are written in decimal.
use Rattle.std.specs.Prelude.{◌≡◌, ℕ, ◌^◌, ◌<◌, ◌≤◌, true, ◌↔◌, List, ◌∷◌, ◌++◌, length, Some, Ok, Err, decimal, Result}
use Rattle.std.specs.Str.{all_ascii_digits}
use Rattle.refusals.specs.declared.Refusal.{Refusal}
use Rattle.refusals.specs.declared.Refusal.TheVariants.{LineForm}
use Rattle.items.specs.Lines.{kind_at}
use Rattle.items.specs.Numerals.{most_digits}
use Rattle.items.specs.declared.line.Kind.{Kind}
use Rattle.items.specs.declared.line.Line.{Line}
use Rattle.items.specs.declared.line.Line.TheVariants.{Regions, Polygon, Pair, Cap, Stop}

-- a line as it is written, without its byte 10
abbrev pub text_of : Line → List ℕ
text_of (Regions n) = 82 ∷ (32 ∷ decimal n)
text_of (Polygon n) = 80 ∷ (32 ∷ decimal n)
text_of (Pair a b) = 45 ∷ (32 ∷ (decimal a ++ (32 ∷ decimal b)))
text_of (Cap c) = 67 ∷ (32 ∷ decimal c)
text_of (Stop m) = 46 ∷ (32 ∷ decimal m)

-- no number of the line has more digits than a numeral may have
abbrev pub Short : Line → Type 0
Short (Regions n) = n < 10 ^ most_digits
Short (Polygon n) = n < 10 ^ most_digits
Short (Pair a b) = (a < 10 ^ most_digits) × (b < 10 ^ most_digits)
Short (Cap c) = c < 10 ^ most_digits
Short (Stop m) = m < 10 ^ most_digits

-- a line has a value exactly if it is that value written out
abbrev pub Spells : List ℕ → Result Line Refusal → Type 0
Spells l r = (x : Line) → (r ≡ Ok x) ↔ (Short x × (l ≡ text_of x))

-- each number of a line is below ten million
abbrev pub BelowTenMillion : Line → Type 0
BelowTenMillion (Regions n) = n < 10000000
BelowTenMillion (Polygon n) = n < 10000000
BelowTenMillion (Pair a b) = (a < 10000000) × (b < 10000000)
BelowTenMillion (Cap c) = c < 10000000
BelowTenMillion (Stop m) = m < 10000000

-- a number has one to seven digits: none of a line that is read has more, each that has no more is read on every
-- kind of line, and behind one of the five letters eight digits together are malformed, wherever they stand
pub record SevenDigits (l : List ℕ) (r : Result Line Refusal) : Type 0 where
  pub no_more : (x : Line) → r ≡ Ok x → BelowTenMillion x
  pub each : (x : Line) → BelowTenMillion x → l ≡ text_of x → r ≡ Ok x
  pub eight : (k : Kind) (xs ds ys : List ℕ) → kind_at l ≡ Some k → l ≡ xs ++ (ds ++ ys) → all_ascii_digits ds ≡ true
      → 8 ≤ length ds → r ≡ Err LineForm
