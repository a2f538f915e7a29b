-- What a writer holds behind a call that writes.
use Rattle.std.specs.Prelude.{◌≡◌, ℕ, List, ◌++◌, MatchResult, Option, Result}
use Rattle.std.specs.Io.KnownBytes.{Appends}

-- Where a writer says which bytes it holds: a front part of these stands behind them, and nothing else.
abbrev pub WrittenFront : Option (List ℕ) → Option (List ℕ) → List ℕ → Type 0
WrittenFront old new bytes =
    (front : List ℕ) × (rest : List ℕ) × (bytes ≡ front ++ rest) × Appends old new front

-- All of them stand there, or a front part where the call failed.
abbrev pub Written : {E : Type 0} → Option (List ℕ) → Option (List ℕ) → Result (Unit {0}) E → List ℕ → Type 0
Written old new r bytes = MatchResult r (λ _. Appends old new bytes) (λ _. WrittenFront old new bytes)
