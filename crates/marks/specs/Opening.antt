-- What opening a mark block gives: the code of an object, or the first refusal that applies.
use Rattle.std.specs.Prelude.{ℕ, ◌+◌, Bool, true, false, ◌&&◌, List, length, take, Ok, Err, Result, ◌==◌, nat_le, nat_lt}
use Rattle.std.specs.List.{between, list_all}
use Rattle.refusals.specs.declared.Refusal.{Refusal}
use Rattle.refusals.specs.declared.Refusal.TheVariants.{BlockSize, BlockCheck, BlockForm, JobDiffers, NotACode}
use Rattle.oracle.specs.Setup.{Code, Setup}
use Rattle.marks.specs.Bytes.{byte, two_at, four_at}
use Rattle.marks.specs.Layout.{edition, check}

-- The parts of a row of 512 bytes. The code and the filling are cut by the row's own code size.
abbrev pub size_in : List ℕ → ℕ
size_in row = two_at row 2

abbrev pub job_in : List ℕ → ℕ
job_in row = four_at row 4

abbrev pub code_in : List ℕ → Code
code_in row = between 8 (8 + size_in row) row

abbrev pub filling_in : List ℕ → List ℕ
filling_in row = between (8 + size_in row) 508 row

abbrev pub all_zero : List ℕ → Bool
all_zero bytes = list_all (λ b. b == 0) bytes

-- The four check bytes are one number.
abbrev pub checks : List ℕ → Bool
checks row = four_at row 508 == check (take 508 row)

abbrev pub size_fits : ℕ → Bool
size_fits k = nat_lt 0 k && nat_le k 480

abbrev pub well_formed : ℕ → List ℕ → Bool
well_formed e row =
    (byte row 0 == e) && (byte row 1 == 0 && (size_fits (size_in row) && all_zero (filling_in row)))

-- Four examinations in their order: the length, the check, the form, the job number. The first that
-- fails is sent back; if none does, the code size is given.
abbrev pub examined : Bool → Bool → Bool → Bool → ℕ → Result ℕ Refusal
examined false sum form job k = Err BlockSize
examined true false form job k = Err BlockCheck
examined true true false job k = Err BlockForm
examined true true true false k = Err JobDiffers
examined true true true true k = Ok k

abbrev pub judged : ℕ → ℕ → List ℕ → Result ℕ Refusal
judged e job row =
    examined (length row == 512) (checks row) (well_formed e row) (job_in row == job) (size_in row)

-- The code, if it has the set-up's size and is an object.
abbrev pub recognized : Bool → Bool → Code → Result Code Refusal
recognized false object v = Err NotACode
recognized true false v = Err NotACode
recognized true true v = Ok v

-- What comes of a row that was judged.
abbrev pub decoded : Setup → List ℕ → Result ℕ Refusal → Result Code Refusal
decoded s row (Err e) = Err e
decoded s row (Ok k) = recognized (k == s.size) (s.object (code_in row)) (code_in row)

abbrev pub opened : ℕ → Setup → List ℕ → Result Code Refusal
opened job s row = decoded s row (judged (edition s) job row)

-- The answer of an opening, and the current object after it; v was current before.
abbrev pub moved_to : Code → Result Code Refusal → Result (Unit {0}) Refusal × Code
moved_to v (Ok w) = (Ok tt, w)
moved_to v (Err e) = (Err e, v)
