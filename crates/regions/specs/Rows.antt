-- Rows of bytes that are given as codes.
use Rattle.std.specs.Prelude.{ℕ, cond, List, Some, None, Option}
use Rattle.masks.specs.Codes.{read_code}
use Rattle.connected.specs.Sets.{is_set}

-- the set that a row is the code of
abbrev pub set_of_row : ℕ → List ℕ → List ℕ → Option ℕ
set_of_row n t row = elim (read_code row) [ None ↦ None | Some s ↦ cond (is_set n t s) (Some s) None ]
