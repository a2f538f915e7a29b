-- What the calls of an oracle answer and leave.
use Rattle.std.specs.Prelude.{ℕ, true, false, List, ◌++◌, length, drop, Some, None, Ok, Err, Option, Result, nat_lt}
use Rattle.refusals.specs.declared.Refusal.{Refusal}
use Rattle.refusals.specs.declared.Refusal.TheVariants.{BufferShort, NotACode, SlotRange}
use Rattle.oracle.specs.Setup.{Code, Setup, Slot, vacant, filled}

-- Stepping from v into a slot: the return slot if it is filled, and the current object after it.
abbrev pub into : Code → Slot → Result (Option ℕ) Refusal × Code
into v vacant = (Ok None, v)
into v (filled w k) = (Ok (Some k), w)

-- A step by slot j; there is no slot from the width on.
abbrev pub stepped : Setup → Code → ℕ → Result (Option ℕ) Refusal × Code
stepped s v j = elim (nat_lt j s.width) [ true ↦ into v (s.slot v j) | false ↦ (Err SlotRange, v) ]

-- The code of v written to the front of a buffer: the answer, and the buffer's bytes after it.
abbrev pub written : Setup → Code → List ℕ → Result (Unit {0}) Refusal × List ℕ
written s v bytes =
    elim (nat_lt (length bytes) s.size) [ true ↦ (Err BufferShort, bytes) | false ↦ (Ok tt, v ++ drop s.size bytes) ]

-- A row of bytes taken for a code at v: the answer, and the current object after it.
abbrev pub taken : Setup → Code → List ℕ → Result (Unit {0}) Refusal × Code
taken s v row = elim (s.object row) [ true ↦ (Ok tt, row) | false ↦ (Err NotACode, v) ]
