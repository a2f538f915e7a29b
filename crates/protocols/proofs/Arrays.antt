-- Digits that are decoded into an array.
use Rattle.std.proofs.Common.{◌≡◌, ℕ, zero, suc, ◌+◌, ◌*◌, ◌/◌, ◌<◌, ◌≤◌, Bool, true, false, eqb, ◌≢◌, List, [], ◌∷◌, length, get_or, set, Some, None, Option, sym, refl, ap, ◌∙◌, arith, below_more, get_or-set_other, get_or-set_same, length-set}
use Rattle.std.proofs.lemmas.Bool.{eq-eqb, ne_eqb}
use Rattle.std.proofs.lemmas.List.{ext_get_or}
use Rattle.items.proofs.Decimal.{clash}
use Rattle.protocols.specs.Values.{bytes_of, hex_value, of_length}

pub length_bytes_of : (ds : List ℕ) → length (bytes_of ds) ≡ length ds / 2
unfolding bytes_of
length_bytes_of [] = refl
length_bytes_of (a ∷ []) = refl
length_bytes_of (a ∷ (b ∷ cs)) = let ih = length_bytes_of cs in omega arith

byte_at : (k : ℕ) (ds : List ℕ) → 2 * k + 1 < length ds
    → get_or (bytes_of ds) k 0 ≡ hex_value (get_or ds (2 * k) 0) * 16 + hex_value (get_or ds (2 * k + 1) 0)
unfolding bytes_of
byte_at k [] h = absurd (omega arith)
byte_at k (a ∷ []) h = absurd (omega arith)
byte_at zero (a ∷ (b ∷ cs)) h = refl
byte_at (suc k) (a ∷ (b ∷ cs)) h =
    let ih = byte_at k cs (omega arith) in
    let one : suc (suc (2 * k)) ≡ 2 * suc k = omega arith in
    let two : suc (suc (2 * k + 1)) ≡ 2 * suc k + 1 = omega arith in
    ih
    ∙ ap (λ n. hex_value (get_or (a ∷ (b ∷ cs)) n 0) * 16 + hex_value (get_or (a ∷ (b ∷ cs)) (suc (suc (2 * k + 1))) 0)) one
    ∙ ap (λ n. hex_value (get_or (a ∷ (b ∷ cs)) (2 * suc k) 0) * 16 + hex_value (get_or (a ∷ (b ∷ cs)) n 0)) two

-- the first so many bytes of n are those of the digits
pub record Decoded (digits : List ℕ) (n place : ℕ) (bytes : List ℕ) : Type 0 where
  pub long : length bytes ≡ n
  pub enough : length digits / 2 ≡ n
  pub same : (k : ℕ) → k < place → get_or bytes k 0 ≡ get_or (bytes_of digits) k 0

pub decoded_start : (digits : List ℕ) (n : ℕ) (bytes : List ℕ) → length bytes ≡ n → length digits / 2 ≡ n → Decoded digits n 0 bytes
decoded_start digits n bytes long enough = record { long = long; enough = enough; same = λ k h. absurd (omega arith) }

pub decoded_more : (digits : List ℕ) (n place : ℕ) (bytes : List ℕ) (x : ℕ) → place < n
    → x ≡ hex_value (get_or digits (2 * place) 0) * 16 + hex_value (get_or digits (2 * place + 1) 0)
    → Decoded digits n place bytes → Decoded digits n (place + 1) (set bytes place x)
decoded_more digits n place bytes x lt e d =
    let long = d.long in
    let enough = d.enough in
    let within : place < length bytes = omega arith in
    record {
      long = length-set bytes place x ∙ d.long;
      enough = d.enough;
      same =
          below_more _ _
          (λ k h. let ne : k ≢ place = omega arith in rw get_or-set_other (d.same k h))
          (rw get_or-set_same (e ∙ sym (byte_at place digits (omega arith))));
    }

by_length : List ℕ → Bool → Option (List ℕ)
by_length bytes t = elim t [ true ↦ Some bytes | false ↦ None ]

pub decoded_done : (digits : List ℕ) (n place : ℕ) (bytes : List ℕ) → n ≤ place → Decoded digits n place bytes → Some bytes ≡ of_length n (bytes_of digits)
unfolding by_length
decoded_done digits n place bytes le d =
    let long = d.long in
    let enough = d.enough in
    let all = length_bytes_of digits in
    let fits : length (bytes_of digits) ≡ n = omega arith in
    let same : length bytes ≡ length (bytes_of digits) = omega arith in
    ap Some (ext_get_or 0 bytes (bytes_of digits) same (λ k h. d.same k (omega arith)))
    ∙ sym (ap (by_length (bytes_of digits)) (eq-eqb (length (bytes_of digits)) n fits))

pub other_length : (digits : List ℕ) (n : ℕ) → length digits / 2 ≢ n → None ≡ of_length n (bytes_of digits)
unfolding by_length
other_length digits n ne =
    let all = length_bytes_of digits in
    let differ : length (bytes_of digits) ≢ n = omega arith in
    sym (ap (by_length (bytes_of digits)) (ne_eqb (length (bytes_of digits)) n differ))

-- what is said of the length
pub length_told : (n : ℕ) (bytes read : List ℕ) → Some read ≡ of_length n bytes → read ≡ bytes
unfolding by_length
length_told n bytes read e = go (eqb (length bytes) n) refl
  where
    go : (t : Bool) → eqb (length bytes) n ≡ t → read ≡ bytes
    go true f = let same : Some read ≡ Some bytes = e ∙ ap (by_length bytes) f in cc
    go false f = clash read (sym (ap (by_length bytes) f) ∙ sym e)

pub length_differs : (n : ℕ) (bytes : List ℕ) → None ≡ of_length n bytes → eqb (length bytes) n ≡ false
unfolding by_length
length_differs n bytes e = go (eqb (length bytes) n) refl
  where
    go : (t : Bool) → eqb (length bytes) n ≡ t → eqb (length bytes) n ≡ false
    go true f = clash bytes (e ∙ ap (by_length bytes) f)
    go false f = f
