-- The mark block of an object: 512 bytes that say where a census stands.
use Rattle.std.specs.Prelude.{ℕ, ◌+◌, ◌-◌, ◌*◌, ◌%◌, Bool, true, false, List, [], ◌∷◌, ◌++◌, length, drop, replicate, Ok, Err, Result, nat_lt}
use Rattle.refusals.specs.declared.Refusal.{Refusal}
use Rattle.refusals.specs.declared.Refusal.TheVariants.{BufferShort}
use Rattle.oracle.specs.Setup.{Code, Setup}
use Rattle.marks.specs.Bytes.{two_bytes, four_bytes}

-- The edition of a set-up's block form. There is one so far.
abbrev pub edition : Setup → ℕ
edition s = 1

-- The head, bytes 0 to 7: the edition, 0, the code size, the job number.
abbrev pub head : ℕ → Setup → List ℕ
head job s = edition s ∷ 0 ∷ (two_bytes s.size ++ four_bytes job)

-- Bytes 8 to 507: the code and the filling.
abbrev pub padded : Setup → Code → List ℕ
padded s v = v ++ replicate (500 - s.size) 0

-- Bytes 0 to 507.
abbrev pub body : ℕ → Setup → Code → List ℕ
body job s v = head job s ++ padded s v

-- The bytes from place i on, each times its place counted from 1, added up.
unfoldable pub weigh : ℕ → List ℕ → ℕ
weigh i [] = 0
weigh i (b ∷ bs) = (i + 1) * b + weigh (i + 1) bs

abbrev pub check : List ℕ → ℕ
check bytes = weigh 0 bytes % 65521

-- These bytes, and their check after them.
abbrev pub sealed : List ℕ → List ℕ
sealed bytes = bytes ++ four_bytes (check bytes)

abbrev pub block : ℕ → Setup → Code → List ℕ
block job s v = sealed (body job s v)

-- A row of 512 bytes written to the front of a buffer, unless that is too short: the answer, and the
-- buffer's bytes after it.
abbrev pub placed : Bool → List ℕ → List ℕ → Result (Unit {0}) Refusal × List ℕ
placed true row bytes = (Err BufferShort, bytes)
placed false row bytes = (Ok tt, row ++ drop 512 bytes)

abbrev pub marked : ℕ → Setup → Code → List ℕ → Result (Unit {0}) Refusal × List ℕ
marked job s v bytes = placed (nat_lt (length bytes) 512) (block job s v) bytes
