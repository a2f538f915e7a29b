-- The first of some candidates that passes. Their order decides which one it is.
use Rattle.std.specs.Prelude.{ℕ, Bool, true, false, List, [], ◌∷◌, Some, None, Option}
use Rattle.std.specs.List.{range_with_len}

unfoldable pub pick : (ℕ → Bool) → List ℕ → Option ℕ
pick passes [] = None
pick passes (i ∷ rest) = elim (passes i) [ true ↦ Some i | false ↦ pick passes rest ]

-- the least number below n that passes
abbrev pub least : (ℕ → Bool) → ℕ → Option ℕ
least passes n = pick passes (range_with_len 0 n)
