-- What is taken from a reader.
use Rattle.std.specs.Prelude.{◌≡◌, ℕ, ◌≤◌, List, ◌++◌, length, Option}
use Rattle.std.specs.Io.KnownBytes.{Consumes}

-- Where a reader says which bytes it has left: so many of them at most are gone, from the front.
abbrev pub TakesUpTo : ℕ → Option (List ℕ) → Option (List ℕ) → Type 0
TakesUpTo most old new = (taken : List ℕ) × Consumes old new taken × (length taken ≤ most)

-- Some of them are gone, and stand behind the bytes of before.
abbrev pub Gains : Option (List ℕ) → Option (List ℕ) → List ℕ → List ℕ → Type 0
Gains old new before after = (taken : List ℕ) × Consumes old new taken × (after ≡ before ++ taken)
