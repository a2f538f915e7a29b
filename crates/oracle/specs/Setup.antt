-- What an adjacency oracle stands for: a set-up. Objects are their codes, rows of bytes; each object
-- has numbered slots, and a filled slot leads to a neighbour. A set-up never changes.
use Rattle.std.specs.Prelude.{ℕ, Bool, List, Option}

abbrev pub Code : Type 0
Code = List ℕ

-- What stands in a slot: nothing, or a neighbour with the return slot, the neighbour's slot that
-- leads back.
pub data Slot : Type 0 where
  vacant : Slot
  filled : Code → ℕ → Slot

-- The slots are numbered 0 to width - 1, and `size` is the number of bytes of a code. Of codes that
-- are no objects, and of slots from the width on, the functions may say anything.
pub record Setup : Type 0 where
  pub width : ℕ
  pub size : ℕ
  pub height : ℕ
  pub root : Code
  pub object : Code → Bool
  pub slot : Code → ℕ → Slot
  pub home : Code → Option ℕ
  pub rank : Code → ℕ
