-- The rules of a mark block, in its bytes: what each part must be, and the answer of an opening.
use Rattle.std.specs.Prelude.{◌≡◌, ℕ, zero, suc, ◌+◌, ◌*◌, ◌%◌, ◌<◌, ◌≤◌, true, List, length, take, drop, slice_index, Ok, Err, Result}
use Rattle.refusals.specs.declared.Refusal.{Refusal}
use Rattle.refusals.specs.declared.Refusal.TheVariants.{BlockSize, BlockCheck, BlockForm, JobDiffers, NotACode}
use Rattle.oracle.specs.Setup.{Code, Setup}

-- The sum over i below n of (i + 1) times byte i.
unfoldable pub weighted_sum : List ℕ → ℕ → ℕ
weighted_sum row zero = 0
weighted_sum row (suc i) = weighted_sum row i + (i + 1) * slice_index row i

-- Bytes 508 to 511 are one number, compared as a whole with the sum so reduced.
abbrev pub HasCheck : List ℕ → Type 0
HasCheck row =
    slice_index row 508 + 256 * slice_index row 509 + 65536 * slice_index row 510 + 16777216 * slice_index row 511
    ≡ weighted_sum row 508 % 65521

-- The code size that a block states, in bytes 2 and 3.
abbrev pub stated_size : List ℕ → ℕ
stated_size row = slice_index row 2 + 256 * slice_index row 3

-- The first two bytes, the code size, and the filling behind the code.
pub record HasForm (row : List ℕ) : Type 0 where
  pub first : slice_index row 0 ≡ 1
  pub second : slice_index row 1 ≡ 0
  pub some_code : 1 ≤ stated_size row
  pub most_code : stated_size row ≤ 480
  pub filling : (i : ℕ) → 8 + stated_size row ≤ i → i < 508 → slice_index row i ≡ 0

-- Bytes 4 to 7 are the job number.
abbrev pub HasJob : ℕ → List ℕ → Type 0
HasJob job row =
    slice_index row 4 + 256 * slice_index row 5 + 65536 * slice_index row 6 + 16777216 * slice_index row 7 ≡ job

-- As many bytes as the block states, from byte 8 on.
abbrev pub stated_code : List ℕ → Code
stated_code row = take (stated_size row) (drop 8 row)

-- The block's code has the set-up's size, and it is the code of an object.
pub record HasObject (s : Setup) (row : List ℕ) : Type 0 where
  pub size : stated_size row ≡ s.size
  pub object : s.object (stated_code row) ≡ true

-- The answer of an opening: the first refusal that applies, and if none does, the block's code.
pub record Told (job : ℕ) (s : Setup) (row : List ℕ) (answer : Result Code Refusal) : Type 0 where
  pub other_length : (¬ (length row ≡ 512)) → answer ≡ Err BlockSize
  pub other_check : length row ≡ 512 → (¬ HasCheck row) → answer ≡ Err BlockCheck
  pub other_form : length row ≡ 512 → HasCheck row → (¬ HasForm row) → answer ≡ Err BlockForm
  pub other_job : length row ≡ 512 → HasCheck row → HasForm row → (¬ HasJob job row) → answer ≡ Err JobDiffers
  pub no_object : length row ≡ 512 → HasCheck row → HasForm row → HasJob job row → (¬ HasObject s row) → answer ≡ Err NotACode
  pub granted : length row ≡ 512 → HasCheck row → HasForm row → HasJob job row → HasObject s row → answer ≡ Ok (stated_code row)

-- The block that is written of an object: 512 bytes, each part as an opening wants it, with the object's
-- code in it. As bytes are below 256, these numbers leave nothing open.
pub record Laid (job : ℕ) (s : Setup) (v : Code) (row : List ℕ) : Type 0 where
  pub whole : length row ≡ 512
  pub check : HasCheck row
  pub form : HasForm row
  pub job_number : HasJob job row
  pub size : stated_size row ≡ s.size
  pub code : stated_code row ≡ v
