-- Codes and numbers are each other's inverse.
use Rattle.std.proofs.Common.{◌≡◌, ℕ, zero, suc, ◌+◌, ◌*◌, ◌/◌, ◌%◌, ◌^◌, ◌<◌, ◌≤◌, Bool, true, false, cond, eqb, ltb, List, [], ◌∷◌, ◌++◌, length, get_or, drop, Some, None, Ok, Err, Result, sym, refl, ap, ◌∙◌, subst, ap₂, pow-suc, arith}
use Rattle.std.specs.List.{AllByRecursion}
use Rattle.std.proofs.lemmas.List.{at_drop_more, at_drop_all}
use Rattle.std.proofs.lemmas.Bool.{and_parts, and_from, ltb-true, lt-ltb, le-ltb, eqb-true, eq-eqb, cond-true}
use Rattle.refusals.specs.declared.Refusal.{Refusal}
use Rattle.refusals.specs.declared.Refusal.TheVariants.{BufferShort}
use Rattle.masks.specs.Codes.{bytes, number, all_bytes, code, is_code, read_code, written_code}

pub number_bytes : (k s : ℕ) → s < 256 ^ k → number (bytes k s) ≡ s
unfolding number bytes
number_bytes zero s h = omega arith
number_bytes (suc k) s h =
    let rest = number_bytes k (s / 256) (omega (arith, pow-suc 256 k)) in
    omega arith

pub bytes_number : (row : List ℕ) → all_bytes row ≡ true → bytes (length row) (number row) ≡ row
unfolding number bytes all_bytes
bytes_number [] h = refl
bytes_number (b ∷ bs) h =
    let p = and_parts (ltb b 256) (all_bytes bs) h in
    let small : b < 256 = ltb-true b 256 p.0 in
    let low : (b + 256 * number bs) % 256 ≡ b = omega arith in
    let high : (b + 256 * number bs) / 256 ≡ number bs = omega arith in
    ap₂ (λ (x : ℕ) (y : List ℕ). x ∷ y) low (ap (bytes (length bs)) high ∙ bytes_number bs p.1)

pub length_bytes : (k s : ℕ) → length (bytes k s) ≡ k
unfolding bytes
length_bytes zero s = refl
length_bytes (suc k) s = ap suc (length_bytes k (s / 256))

pub bytes_small : (k s : ℕ) → all_bytes (bytes k s) ≡ true
unfolding bytes all_bytes
bytes_small zero s = refl
bytes_small (suc k) s =
    and_from (ltb (s % 256) 256) (all_bytes (bytes k (s / 256))) (lt-ltb (s % 256) 256 (omega arith)) (bytes_small k (s / 256))

pub each_byte : (row : List ℕ) → all_bytes row ≡ true → AllByRecursion (λ b. b < 256) row
unfolding all_bytes
each_byte [] h = tt
each_byte (b ∷ bs) h =
    let p = and_parts (ltb b 256) (all_bytes bs) h in
    (ltb-true b 256 p.0, each_byte bs p.1)

pub bytes_each : (row : List ℕ) → AllByRecursion (λ b. b < 256) row → all_bytes row ≡ true
unfolding all_bytes
bytes_each [] h = refl
bytes_each (b ∷ bs) h = and_from (ltb b 256) (all_bytes bs) (lt-ltb b 256 h.0) (bytes_each bs h.1)

-- ---- at 8 bytes

pub number_code : (s : ℕ) → s < 2 ^ 64 → number (code s) ≡ s
number_code s h = number_bytes 8 s h

pub code_is : (s : ℕ) → is_code (code s) ≡ true
code_is s = and_from (eqb (length (code s)) 8) (all_bytes (code s)) (eq-eqb (length (code s)) 8 (length_bytes 8 s)) (bytes_small 8 s)

pub code_length : (row : List ℕ) → is_code row ≡ true → length row ≡ 8
code_length row h = eqb-true (length row) 8 (and_parts (eqb (length row) 8) (all_bytes row) h).0

pub code_bytes : (row : List ℕ) → is_code row ≡ true → AllByRecursion (λ b. b < 256) row
code_bytes row h = each_byte row (and_parts (eqb (length row) 8) (all_bytes row) h).1

pub code_from : (row : List ℕ) → length row ≡ 8 → AllByRecursion (λ b. b < 256) row → is_code row ≡ true
code_from row l h = and_from (eqb (length row) 8) (all_bytes row) (eq-eqb (length row) 8 l) (bytes_each row h)

pub code_number : (row : List ℕ) → is_code row ≡ true → code (number row) ≡ row
code_number row h =
    ap (λ k. bytes k (number row)) (sym (code_length row h)) ∙ bytes_number row (and_parts (eqb (length row) 8) (all_bytes row) h).1

-- ---- as the program reads and writes 8 bytes

pub all_bytes_from : (row : List ℕ) → ((i : ℕ) → get_or row i 0 < 256) → all_bytes row ≡ true
unfolding all_bytes
all_bytes_from [] h = refl
all_bytes_from (b ∷ bs) h = and_from (ltb b 256) (all_bytes bs) (lt-ltb b 256 (h 0)) (all_bytes_from bs (λ i. h (suc i)))

number_from : (row : List ℕ) (i : ℕ) → i < length row → number (drop i row) ≡ get_or row i 0 + 256 * number (drop (i + 1) row)
unfolding number
number_from row i h = at_drop_more number row i 0 h

number_past : (row : List ℕ) (i : ℕ) → length row ≤ i → number (drop i row) ≡ 0
unfolding number
number_past row i h = at_drop_all number row i h

pub read_eight : (row : List ℕ) (s : ℕ) → length row ≡ 8 → ((i : ℕ) → get_or row i 0 < 256)
    → s ≡ get_or row 0 0 + get_or row 1 0 * 256 + get_or row 2 0 * 65536 + get_or row 3 0 * 16777216 + get_or row 4 0 * 4294967296 + get_or row 5 0 * 1099511627776 + get_or row 6 0 * 281474976710656 + get_or row 7 0 * 72057594037927936
    → Some s ≡ read_code row
read_eight row s l h e =
    let same : s ≡ number row =
    omega (arith, e, number_from row 0 (omega arith), number_from row 1 (omega arith), number_from row 2 (omega arith), number_from row 3 (omega arith), number_from row 4 (omega arith), number_from row 5 (omega arith), number_from row 6 (omega arith), number_from row 7 (omega arith), number_past row 8 (omega arith)) in
    ap Some same
    ∙ sym (cond-true (is_code row) (Some (number row)) None (and_from (eqb (length row) 8) (all_bytes row) (eq-eqb (length row) 8 l) (all_bytes_from row h)))

pub write_eight : (s : ℕ)
    → code s ≡ s % 256 ∷ s / 256 % 256 ∷ s / 65536 % 256 ∷ s / 16777216 % 256 ∷ s / 4294967296 % 256 ∷ s / 1099511627776 % 256 ∷ s / 281474976710656 % 256 ∷ s / 72057594037927936 % 256 ∷ []
unfolding bytes
write_eight s =
    let e2 : s / 256 / 256 ≡ s / 65536 = omega arith in
    let e3 : s / 65536 / 256 ≡ s / 16777216 = omega arith in
    let e4 : s / 16777216 / 256 ≡ s / 4294967296 = omega arith in
    let e5 : s / 4294967296 / 256 ≡ s / 1099511627776 = omega arith in
    let e6 : s / 1099511627776 / 256 ≡ s / 281474976710656 = omega arith in
    let e7 : s / 281474976710656 / 256 ≡ s / 72057594037927936 = omega arith in
    cc

-- a row that is read is the code of what is read
pub read_says : (row : List ℕ) (s : ℕ) → Some s ≡ read_code row → (is_code row ≡ true) × (number row ≡ s) × (code s ≡ row)
read_says row s e = go (is_code row) refl e
  where
    go : (b : Bool) → is_code row ≡ b → Some s ≡ cond b (Some (number row)) None → (is_code row ≡ true) × (number row ≡ s) × (code s ≡ row)
    go true h f =
        let same : number row ≡ s = cc in
        (h, same, ap code (sym same) ∙ code_number row h)
    go false h f = let z : ◌≡◌ {A = ℕ} 0 1 = cc in absurd (omega arith)

pub written_eight : (s : ℕ) (buffer part : List ℕ) → 8 ≤ length buffer → part ≡ code s → (Ok tt, part ++ drop 8 buffer) ≡ written_code s buffer
written_eight s buffer part l e =
    let answer : List ℕ → Result (Unit {0}) Refusal × List ℕ = λ front. (Ok tt, front ++ drop 8 buffer) in
    subst (λ b. answer part ≡ elim b [ true ↦ (Err BufferShort, buffer) | false ↦ answer (code s) ]) (sym (le-ltb (length buffer) 8 l)) (ap answer e)
