-- A number of a line has at most seven digits.
use Rattle.std.proofs.Common.{◌≡◌, ℕ, ◌^◌, ◌<◌, ◌≤◌, true, false, ◌⊎◌, List, [], ◌∷◌, ◌++◌, length, is_some, Some, None, Ok, Err, decimal, Result, sym, refl, ap, ◌∙◌, inl, inr, arith}
use Rattle.std.specs.Char.{is_ascii_digit}
use Rattle.std.specs.Str.{all_ascii_digits}
use Rattle.std.proofs.lemmas.Bool.{and_parts}
use Rattle.std.proofs.lemmas.List.{length-append}
use Rattle.std.proofs.lemmas.Fmt.{length-decimal-le}
use Rattle.refusals.specs.declared.Refusal.{Refusal}
use Rattle.refusals.specs.declared.Refusal.TheVariants.{FirstByte, LineForm}
use Rattle.items.specs.Lines.{kind_at, line_of}
use Rattle.items.specs.Texts.{text_of, Short, BelowTenMillion, SevenDigits}
use Rattle.items.specs.declared.line.Kind.{Kind}
use Rattle.items.specs.declared.line.Line.{Line}
use Rattle.items.specs.declared.line.Line.TheVariants.{Regions, Polygon, Pair, Cap, Stop}
use Rattle.items.proofs.Texts.{spells, bad_line}

other_byte : (c d : ℕ) (ds : List ℕ) {Y : Type 0} → is_ascii_digit c ≡ false → all_ascii_digits (d ∷ ds) ≡ true → d ≡ c → Y
other_byte c d ds f h e =
    let yes : is_ascii_digit d ≡ true = (and_parts (is_ascii_digit d) (all_ascii_digits ds) h).0 in
    let no : is_ascii_digit d ≡ false = ap is_ascii_digit e ∙ f in
    cc

-- digits that reach past so many bytes go on there
cut_short : (c : ℕ) (es rest ds ys : List ℕ) {Y : Type 0} → is_ascii_digit c ≡ false → all_ascii_digits ds ≡ true
    → length es < length ds → ds ++ ys ≡ es ++ (c ∷ rest) → Y
cut_short c es rest [] ys f h few e = absurd (omega arith)
cut_short c [] rest (d ∷ ds) ys f h few e = let same : d ≡ c = cc in other_byte c d ds f h same
cut_short c (x ∷ es) rest (d ∷ ds) ys f h few e =
    let same : ds ++ ys ≡ es ++ (c ∷ rest) = cc in
    cut_short c es rest ds ys f (and_parts (is_ascii_digit d) (all_ascii_digits ds) h).1 (omega arith) same

-- so digits that are more than the bytes before a byte that is no digit stand behind it
behind : (c : ℕ) (es rest xs ds ys : List ℕ) → is_ascii_digit c ≡ false → all_ascii_digits ds ≡ true
    → length es < length ds → xs ++ (ds ++ ys) ≡ es ++ (c ∷ rest) → (zs : List ℕ) × (zs ++ (ds ++ ys) ≡ rest)
behind c es rest [] ds ys f h few e = cut_short c es rest ds ys f h few e
behind c [] rest (x ∷ xs) ds ys f h few e = (xs, cc)
behind c (y ∷ es) rest (x ∷ xs) ds ys f h few e =
    let same : xs ++ (ds ++ ys) ≡ es ++ (c ∷ rest) = cc in
    behind c es rest xs ds ys f h (omega arith) same

-- eight digits are in no number below ten million
module _ (ds ys : List ℕ) (h : all_ascii_digits ds ≡ true) (many : 8 ≤ length ds) where
  in_number : (n : ℕ) (xs : List ℕ) {Y : Type 0} → n < 10 ^ 7 → xs ++ (ds ++ ys) ≡ decimal n → Y
  in_number n xs few e =
      let short = length-decimal-le 7 n (omega arith) few (omega arith) in
      let all = ap length e in
      let outer = length-append xs (ds ++ ys) in
      let inner = length-append ds ys in
      absurd (omega arith)

  in_one : (c n : ℕ) (xs : List ℕ) {Y : Type 0} → is_ascii_digit c ≡ false → n < 10 ^ 7
      → xs ++ (ds ++ ys) ≡ c ∷ (32 ∷ decimal n) → Y
  in_one c n xs f few e =
      let a = behind c [] (32 ∷ decimal n) xs ds ys f h (omega arith) e in
      let b = behind 32 [] (decimal n) a.0 ds ys refl h (omega arith) a.1 in
      in_number n b.0 few b.1

  in_text : (x : Line) (xs : List ℕ) {Y : Type 0} → Short x → xs ++ (ds ++ ys) ≡ text_of x → Y
  in_text (Regions n) xs s e = in_one 82 n xs refl s e
  in_text (Polygon n) xs s e = in_one 80 n xs refl s e
  in_text (Pair m n) xs s e =
      let short = length-decimal-le 7 m (omega arith) s.0 (omega (arith, s.0)) in
      let a = behind 45 [] (32 ∷ (decimal m ++ (32 ∷ decimal n))) xs ds ys refl h (omega arith) e in
      let b = behind 32 [] (decimal m ++ (32 ∷ decimal n)) a.0 ds ys refl h (omega arith) a.1 in
      let c = behind 32 (decimal m) (decimal n) b.0 ds ys refl h (omega arith) b.1 in
      in_number n c.0 s.1 c.1
  in_text (Cap n) xs s e = in_one 67 n xs refl s e
  in_text (Stop n) xs s e = in_one 46 n xs refl s e

below : (x : Line) → Short x → BelowTenMillion x
below (Regions n) h = h
below (Polygon n) h = h
below (Pair a b) h = h
below (Cap c) h = h
below (Stop m) h = h

short : (x : Line) → BelowTenMillion x → Short x
short (Regions n) h = h
short (Polygon n) h = h
short (Pair a b) h = h
short (Cap c) h = h
short (Stop m) h = h

pub seven_digits : (l : List ℕ) → SevenDigits l (line_of l)
seven_digits l = record {
  no_more = λ x e. below x ((spells l x).0 e).0;
  each = λ x h e. (spells l x).1 (short x h, e);
  eight = λ k xs ds ys letter e h many. go k xs ds ys letter e h many (line_of l) refl;
}
  where
    go : (k : Kind) (xs ds ys : List ℕ) → kind_at l ≡ Some k → l ≡ xs ++ (ds ++ ys) → all_ascii_digits ds ≡ true
        → 8 ≤ length ds → (r : Result Line Refusal) → line_of l ≡ r → r ≡ Err LineForm
    go k xs ds ys letter e h many (Ok x) f =
        let s = (spells l x).0 f in
        in_text ds ys h many x xs s.0 (sym e ∙ s.1)
    go k xs ds ys letter e h many (Err j) f = by (bad_line l j f)
      where
        by : ((j ≡ FirstByte) × (kind_at l ≡ None)) ⊎ ((j ≡ LineForm) × (is_some (kind_at l) ≡ true)) → ◌≡◌ {A = Result Line Refusal} (Err j) (Err LineForm)
        by (inl w) = let no : Some k ≡ None = sym letter ∙ w.1 in cc
        by (inr w) = ap Err w.0
