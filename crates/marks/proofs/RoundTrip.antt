-- The block of an object opens at that object.
use Rattle.std.proofs.Common.{◌≡◌, ℕ, zero, suc, ◌+◌, ◌-◌, ◌*◌, ◌/◌, ◌%◌, ◌<◌, ◌≤◌, Bool, true, eqb, ltb, leb, List, ◌++◌, length, take, replicate, Ok, refl, ap, ◌∙◌, arith}
use native.Mathlib.Nat.{div-div-eq-div-mul}
use Rattle.std.proofs.lemmas.List.{append_assoc, length-append, length-replicate, take_at, drop_at, get_or-append_right}
use Rattle.std.proofs.lemmas.Bool.{eq-eqb, lt-ltb, le-leb, and_from}
use Rattle.std.specs.List.{between}
use Rattle.oracle.specs.Laws.{Object, Lawful}
use Rattle.oracle.specs.Setup.{Code, Setup}
use Rattle.marks.specs.Bytes.{four_bytes}
use Rattle.marks.specs.Layout.{edition, head, padded, body, check, block}
use Rattle.marks.specs.Opening.{size_in, job_in, code_in, filling_in, all_zero, checks, size_fits, well_formed, examined, recognized, decoded, opened}

-- a number is told again by its bytes
two_back : (n : ℕ) → n < 65536 → n % 256 + n / 256 % 256 * 256 ≡ n
two_back n h = omega arith

low_byte : (n : ℕ) → n ≡ n % 256 + n / 256 * 256
low_byte n = omega arith

pub four_back : (n : ℕ) → n < 4294967296 → n % 256 + n / 256 % 256 * 256 + n / 65536 % 256 * 65536 + n / 16777216 % 256 * 16777216 ≡ n
four_back n h =
    weighed n (n / 256) (n / 65536) (n / 16777216) _ _ _ _ (low_byte n)
    (low_byte (n / 256) ∙ ap (λ m. n / 256 % 256 + m * 256) (div-div-eq-div-mul n 256 256))
    (low_byte (n / 65536) ∙ ap (λ m. n / 65536 % 256 + m * 256) (div-div-eq-div-mul n 65536 256))
    (omega arith)
  where
    weighed : (n q r t a b c d : ℕ) → n ≡ a + q * 256 → q ≡ b + r * 256 → r ≡ c + t * 256 → t ≡ d → a + b * 256 + c * 65536 + d * 16777216 ≡ n
    weighed n q r t a b c d e f g h = omega arith

all_zero_replicate : (n : ℕ) → all_zero (replicate n 0) ≡ true
all_zero_replicate zero = refl
all_zero_replicate (suc n) = all_zero_replicate n

-- what opening gives, by the four examinations
pub opening : (job : ℕ) (s : Setup) (row : List ℕ) (a b c d : Bool) → eqb (length row) 512 ≡ a → checks row ≡ b → well_formed (edition s) row ≡ c → eqb (job_in row) job ≡ d → opened job s row ≡ decoded s row (examined a b c d (size_in row))
opening job s row a b c d whole sum form same-job =
    ap (decoded s row) (same (eqb (length row) 512) (checks row) (well_formed (edition s) row) (eqb (job_in row) job) (size_in row) whole sum form same-job)
  where
    same : (w x y z : Bool) (k : ℕ) → w ≡ a → x ≡ b → y ≡ c → z ≡ d → examined w x y z k ≡ examined a b c d k
    same w x y z k p q r t = rw (p, q, r, t) refl

-- a row that passes every examination
pub granted : (job : ℕ) (s : Setup) (row : List ℕ) (v : Code) → eqb (length row) 512 ≡ true → checks row ≡ true → well_formed (edition s) row ≡ true → eqb (job_in row) job ≡ true → eqb (size_in row) s.size ≡ true → code_in row ≡ v → Object s v → opened job s row ≡ Ok v
granted job s row v whole sum form same-job same_size code object =
    opening job s row true true true true whole sum form same-job
    ∙ known (eqb (size_in row) s.size) (s.object (code_in row)) same_size (ap s.object code ∙ object) (code_in row)
    ∙ ap Ok code
  where
    known : (a b : Bool) → a ≡ true → b ≡ true → (w : Code) → recognized a b w ≡ Ok w
    known a b p q w = rw (p, q) refl

pub padded_length : (s : Setup) → Lawful s → (v : Code) → Object s v → length (padded s v) ≡ 500
padded_length s law v object =
    let a = length-append v (replicate (500 - s.size) 0) in
    let b : length (replicate {A = ℕ} (500 - s.size) 0) ≡ 500 - s.size = length-replicate (500 - s.size) 0 in
    let n = law.code_size v object in
    omega (arith, law.size_limit)

module _ (s : Setup) (law : Lawful s) (v : Code) (object : Object s v) (job : ℕ) (fits : job < 4294967296) where
  zeros : List ℕ
  zeros = replicate (500 - s.size) 0

  sum-bytes : List ℕ
  sum-bytes = four_bytes (check (body job s v))

  body_length : length (body job s v) ≡ 508
  body_length = let n = padded_length s law v object in omega arith

  pub check_read : checks (block job s v) ≡ true
  check_read =
      let b = body job s v in
      let t = four_bytes (check b) in
      let at = λ (i : ℕ) (h : 508 ≤ i). get_or-append_right b t 508 i 0 body_length h in
      let told = four_back (check b) (omega arith) in
      let front = ap check (take_at b t 508 body_length) in
      eq-eqb _ _ (omega (arith, at 508 (omega arith), at 509 (omega arith), at 510 (omega arith), at 511 (omega arith), front, told))

  pub size_read : size_in (block job s v) ≡ s.size
  size_read = two_back s.size (omega (arith, law.size_limit))

  -- the row with its parts side by side
  parts : block job s v ≡ (head job s ++ v) ++ (zeros ++ sum-bytes)
  unfolding zeros sum-bytes
  parts = ap (head job s ++◌) (append_assoc v zeros sum-bytes)

  filling-read : all_zero (filling_in (block job s v)) ≡ true
  unfolding zeros sum-bytes
  filling-read =
      let n : length v ≡ s.size = law.code_size v object in
      let front : length (head job s ++ v) ≡ 8 + s.size = omega arith in
      let b : length (replicate {A = ℕ} (500 - s.size) 0) ≡ 508 - (8 + s.size) = length-replicate (500 - s.size) 0 ∙ omega arith in
      ap (λ k. all_zero (between (8 + k) 508 (block job s v))) size_read
      ∙ ap (λ row. all_zero (between (8 + s.size) 508 row)) parts
      ∙ ap (λ row. all_zero (take (508 - (8 + s.size)) row)) (drop_at (head job s ++ v) (zeros ++ sum-bytes) (8 + s.size) front)
      ∙ ap all_zero (take_at zeros sum-bytes (508 - (8 + s.size)) b)
      ∙ all_zero_replicate (500 - s.size)

  pub code_read : code_in (block job s v) ≡ v
  unfolding zeros sum-bytes
  code_read =
      let n : length v ≡ 8 + s.size - 8 = law.code_size v object ∙ omega arith in
      ap (λ k. between 8 (8 + k) (block job s v)) size_read
      ∙ ap (take (8 + s.size - 8)) (append_assoc v zeros sum-bytes)
      ∙ take_at v (zeros ++ sum-bytes) (8 + s.size - 8) n

  pub form_read : well_formed (edition s) (block job s v) ≡ true
  form_read =
      let size = size_read in
      let k = size_in (block job s v) in
      and_from (size_fits k) (all_zero (filling_in (block job s v)))
      (and_from (ltb 0 k) (leb k 480) (lt-ltb 0 k (omega (arith, law.size_positive))) (le-leb k 480 (omega (arith, law.size_limit))))
      filling-read

  pub block_length : length (block job s v) ≡ 512
  block_length = length-append (body job s v) (four_bytes (check (body job s v))) ∙ omega (arith, body_length)

  pub round_trip : opened job s (block job s v) ≡ Ok v
  round_trip =
      granted job s (block job s v) v
      (eq-eqb _ _ block_length)
      check_read
      form_read
      (eq-eqb _ _ (four_back job fits))
      (eq-eqb _ _ size_read)
      code_read
      object
