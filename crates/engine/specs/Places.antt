-- The plain census: the set-up's list, a place in it, and what each act answers there. It knows
-- nothing of oracles. Past the end, next, read and save are refused; a refused act changes nothing.
use Rattle.std.specs.Prelude.{ℕ, ◌+◌, List, Some, None, Ok, Err, Option, Result}
use Rattle.refusals.specs.declared.Refusal.{Refusal}
use Rattle.refusals.specs.declared.Refusal.TheVariants.{PastEnd}
use Rattle.oracle.specs.Calls.{written}
use Rattle.oracle.specs.Places.{at, place}
use Rattle.oracle.specs.Setup.{Code, Setup}
use Rattle.oracle.specs.Walk.{Spot, on, past}
use Rattle.marks.specs.Layout.{marked}
use Rattle.marks.specs.Opening.{opened}
use Rattle.engine.specs.Stand.{Stand, standing_at}

-- The rank of the object at a spot, or none past the end.
abbrev pub rank_at : Setup → Spot → Option ℕ
rank_at s (on w) = Some (s.rank w)
rank_at s past = None

-- next: one place on, and the answer is the rank there or the end.
abbrev pub next_from : Setup → Stand → Spot → Result (Option ℕ) Refusal × Stand
next_from s here past = (Err PastEnd, here)
next_from s here (on v) = (Ok (rank_at s (at s (here.place + 1))), standing_at s (here.place + 1))

abbrev pub next_place : Setup → Stand → Result (Option ℕ) Refusal × Stand
next_place s here = next_from s here (at s here.place)

-- restart: the first place.
abbrev pub restart_place : Setup → Stand
restart_place s = standing_at s 1

-- read: the code of the object at the place, written to the front of the buffer.
abbrev pub read_from : Setup → List ℕ → Spot → Result (Unit {0}) Refusal × List ℕ
read_from s bytes past = (Err PastEnd, bytes)
read_from s bytes (on v) = written s v bytes

abbrev pub read_place : Setup → Stand → List ℕ → Result (Unit {0}) Refusal × List ℕ
read_place s here bytes = read_from s bytes (at s here.place)

-- save: the mark block of the object at the place, written to the front of the buffer.
abbrev pub save_from : ℕ → Setup → List ℕ → Spot → Result (Unit {0}) Refusal × List ℕ
save_from job s bytes past = (Err PastEnd, bytes)
save_from job s bytes (on v) = marked job s v bytes

abbrev pub save_place : ℕ → Setup → Stand → List ℕ → Result (Unit {0}) Refusal × List ℕ
save_place job s here bytes = save_from job s bytes (at s here.place)

-- resume: the place of the block's object.
abbrev pub resume_to : Setup → Stand → Result Code Refusal → Result (Unit {0}) Refusal × Stand
resume_to s here (Err e) = (Err e, here)
resume_to s here (Ok w) = (Ok tt, standing_at s (place s w))

abbrev pub resume_place : ℕ → Setup → Stand → List ℕ → Result (Unit {0}) Refusal × Stand
resume_place job s here bytes = resume_to s here (opened job s bytes)
