-- Counting in lists of codes.
use Rattle.std.specs.Prelude.{◌≡◌, ℕ, zero, suc, ◌+◌, cond, List, [], ◌∷◌}
use Rattle.std.specs.List.{AllByRecursion}
use Rattle.std.specs.Str.{bytes_eq}
use Rattle.oracle.specs.Setup.{Code, Setup, Slot, vacant, filled}
use Rattle.oracle.specs.Laws.{Object}

-- 1 if the two codes are the same, else 0
unfoldable pub same : Code → Code → ℕ
same x y = cond (bytes_eq x y) 1 0

-- the sum of f over a list
unfoldable pub total : (Code → ℕ) → List Code → ℕ
total f [] = 0
total f (x ∷ xs) = f x + total f xs

-- how many times x stands in a list
abbrev pub times : Code → List Code → ℕ
times x ys = total (same x) ys

-- A list that holds every object exactly once and nothing else.
pub record Enumerates (s : Setup) (xs : List Code) : Type 0 where
  pub each_once : (v : Code) → Object s v → times v xs ≡ 1
  pub nothing_else : AllByRecursion (Object s) xs

unfoldable pub filled_count : Slot → ℕ
filled_count vacant = 0
filled_count (filled w k) = 1

-- how many of n slots of v from slot j on are filled
unfoldable pub filled_from : Setup → Code → ℕ → ℕ → ℕ
filled_from s v j zero = 0
filled_from s v j (suc n) = filled_count (s.slot v j) + filled_from s v (j + 1) n

-- how many slots of v are filled
abbrev pub filled_of : Setup → Code → ℕ
filled_of s v = filled_from s v 0 s.width
