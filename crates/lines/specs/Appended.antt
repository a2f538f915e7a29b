-- Bytes that are written behind those of a buffer.
use Rattle.std.specs.Prelude.{◌≡◌, ℕ, ◌+◌, ◌≤◌, true, List, ◌++◌, length, is_ok, if◌then◌else◌, vec_items, vec_len, vec_capacity, Result, Vec}
use Rattle.std.specs.declared.alloc.AllocError.{AllocError}

-- There is room for so many bytes more.
abbrev pub HasRoom : {Z : Type 0} → Vec ℕ Z → ℕ → Type 0
HasRoom v n = vec_len v + n ≤ vec_capacity v

-- These bytes stand behind those of before, and no room is lost.
abbrev pub Appended : {Z : Type 0} → Vec ℕ Z → Vec ℕ Z → List ℕ → Type 0
Appended old new bytes =
    (vec_items new ≡ vec_items old ++ bytes)
    × (vec_len new ≡ vec_len old + length bytes)
    × (vec_capacity old ≤ vec_capacity new)

-- A line that is written behind those of before, whole, or not at all for want of memory; where there is
-- the room for it, it is written.
pub record Line {Z : Type 0} (old : Vec ℕ Z) (result : Result (Unit {0}) AllocError) (new : Vec ℕ Z) (text : List ℕ) (room : ℕ) : Type 0 where
  pub items : vec_items new ≡ (if is_ok result then vec_items old ++ text else vec_items old)
  pub capacity : vec_capacity old ≤ vec_capacity new
  pub succeeds : HasRoom old room → is_ok result ≡ true
