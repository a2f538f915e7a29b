-- Digits are what is written of the bytes that they stand for.
use Rattle.std.proofs.Common.{◌≡◌, ℕ, ◌+◌, ◌-◌, ◌*◌, ◌/◌, ◌%◌, ◌<◌, ◌≤◌, Bool, true, false, ◌&&◌, eqb, leb, List, [], ◌∷◌, ◌++◌, length, get_or, take, drop, Some, None, codes, Option, sym, refl, ap, ◌∙◌, subst, arith}
use Rattle.std.specs.List.{AllByRecursion}
use Rattle.std.specs.Str.{bytes_eq}
use Rattle.std.proofs.lemmas.Slice.Eq.{bytes_eq-Decides}
use Rattle.std.proofs.lemmas.List.{take_rest, append_assoc, append-nil}
use Rattle.std.proofs.lemmas.Bool.{and_parts, and_from, eqb-true, eq-eqb, leb-true, le-leb, and_right}
use Rattle.std.proofs.lemmas.Bool.Decides.{nat_tests}
use Rattle.lines.specs.Texts.{hex_digit, hexed}
use Rattle.protocols.specs.Requests.{block_text}
use Rattle.protocols.specs.Values.{is_hex, hex_value, all_hex, bytes_of, in_pairs, bytes_at}
use Rattle.items.proofs.Decimal.{clash}

-- one digit: its value, and back
value_lt : (c : ℕ) → hex_value c < 16
value_lt c = grind (arith, nat_tests)

digit_value : (c : ℕ) → is_hex c ≡ true → hex_digit (hex_value c) ≡ c
digit_value c h = grind (arith, nat_tests)

value_digit : (d : ℕ) → d < 16 → hex_value (hex_digit d) ≡ d
value_digit d h = grind (arith, nat_tests)

digit_hex : (d : ℕ) → d < 16 → is_hex (hex_digit d) ≡ true
digit_hex d h = grind (arith, nat_tests)

digit_above : (d : ℕ) → 48 ≤ hex_digit d
digit_above d = grind (arith, nat_tests)

-- two digits
high : (h l : ℕ) → l < 16 → (h * 16 + l) / 16 ≡ h
high h l lt = omega arith

low : (h l : ℕ) → l < 16 → (h * 16 + l) % 16 ≡ l
low h l lt = omega arith

whole : (b : ℕ) → b / 16 * 16 + b % 16 ≡ b
whole b = omega arith

-- digits in pairs, written of what they stand for
pairs_back : (n : ℕ) (ds : List ℕ) → length ds ≡ 2 * n → all_hex ds ≡ true
    → (hexed (bytes_of ds) ≡ ds) × AllByRecursion (λ b. b < 256) (bytes_of ds)
unfolding hexed bytes_of
pairs_back n [] e h = (refl, tt)
pairs_back n (a ∷ []) e h = absurd (omega arith)
pairs_back n (a ∷ (b ∷ cs)) e h =
    let p = and_parts (is_hex a) (is_hex b && all_hex cs) h in
    let q = and_parts (is_hex b) (all_hex cs) p.1 in
    let ih = pairs_back (n - 1) cs (omega arith) q.1 in
    let la = value_lt a in
    let lb = value_lt b in (
      ap (λ x. hex_digit x ∷ (hex_digit ((hex_value a * 16 + hex_value b) % 16) ∷ hexed (bytes_of cs))) (high (hex_value a) (hex_value b) lb)
          ∙ ap (λ x. hex_digit (hex_value a) ∷ (hex_digit x ∷ hexed (bytes_of cs))) (low (hex_value a) (hex_value b) lb)
          ∙ ap (λ x. x ∷ (hex_digit (hex_value b) ∷ hexed (bytes_of cs))) (digit_value a p.0)
          ∙ ap (λ x. a ∷ (x ∷ hexed (bytes_of cs))) (digit_value b q.0)
          ∙ ap (λ x. a ∷ (b ∷ x)) ih.0,
      (omega arith, ih.1),
    )

-- written bytes, read from their digits
bytes_back : (bs : List ℕ) → AllByRecursion (λ b. b < 256) bs → bytes_of (hexed bs) ≡ bs
unfolding hexed bytes_of
bytes_back [] h = refl
bytes_back (b ∷ bs) h =
    let small = h.0 in
    let ha : b / 16 < 16 = omega arith in
    let lb : b % 16 < 16 = omega arith in
    ap (λ x. (x * 16 + hex_value (hex_digit (b % 16))) ∷ bytes_of (hexed bs)) (value_digit (b / 16) ha)
    ∙ ap (λ x. (b / 16 * 16 + x) ∷ bytes_of (hexed bs)) (value_digit (b % 16) lb)
    ∙ ap (λ x. x ∷ bytes_of (hexed bs)) (whole b)
    ∙ ap (λ x. b ∷ x) (bytes_back bs h.1)

digits_hex : (bs : List ℕ) → AllByRecursion (λ b. b < 256) bs → all_hex (hexed bs) ≡ true
unfolding hexed
digits_hex [] h = refl
digits_hex (b ∷ bs) h =
    let small = h.0 in
    let ha : b / 16 < 16 = omega arith in
    let lb : b % 16 < 16 = omega arith in
    and_from (is_hex (hex_digit (b / 16))) (is_hex (hex_digit (b % 16)) && all_hex (hexed bs)) (digit_hex (b / 16) ha)
    (and_from (is_hex (hex_digit (b % 16))) (all_hex (hexed bs)) (digit_hex (b % 16) lb) (digits_hex bs h.1))

pub length_hexed : (bs : List ℕ) → length (hexed bs) ≡ 2 * length bs
unfolding hexed
length_hexed [] = refl
length_hexed (b ∷ bs) = let ih = length_hexed bs in omega arith

pub hexed_above : (bs : List ℕ) → AllByRecursion (λ b. 48 ≤ b) (hexed bs)
unfolding hexed
hexed_above [] = tt
hexed_above (b ∷ bs) = (digit_above (b / 16), (digit_above (b % 16), hexed_above bs))

by_pairs : List ℕ → Bool → Option (List ℕ)
by_pairs ds t = elim t [ true ↦ Some (bytes_of ds) | false ↦ None ]

by_hyphen : List ℕ → Bool → Option (List ℕ)
by_hyphen ds t = elim t [ true ↦ Some [] | false ↦ elim (in_pairs ds) [ true ↦ Some (bytes_of ds) | false ↦ None ] ]

-- bytes whose digits are not none
block_text_some : (bs : List ℕ) → 1 ≤ length (hexed bs) → hexed bs ≡ block_text bs
unfolding hexed
block_text_some [] h = absurd (omega arith)
block_text_some (b ∷ bs) h = refl

-- what is read as bytes is those bytes written
pub bytes_are : (ds bs : List ℕ) → bytes_at ds ≡ Some bs → AllByRecursion (λ b. b < 256) bs × (ds ≡ block_text bs)
unfolding bytes_at by_pairs by_hyphen
bytes_are ds bs e = go (bytes_eq ds (codes "-")) refl
  where
    pairs : in_pairs ds ≡ true → AllByRecursion (λ b. b < 256) (bytes_of ds) × (ds ≡ block_text (bytes_of ds))
    pairs g =
        let p = and_parts (leb 1 (length ds) && eqb (length ds % 2) 0) (all_hex ds) g in
        let q = and_parts (leb 1 (length ds)) (eqb (length ds % 2) 0) p.0 in
        let some = leb-true 1 (length ds) q.0 in
        let even = eqb-true (length ds % 2) 0 q.1 in
        let back = pairs_back (length ds / 2) ds (omega arith) p.1 in
        let long = ap length back.0 in
        (back.1, sym back.0 ∙ block_text_some (bytes_of ds) (omega arith))

    by : (t : Bool) → in_pairs ds ≡ t → bytes_eq ds (codes "-") ≡ false → AllByRecursion (λ b. b < 256) bs × (ds ≡ block_text bs)
    by true g f =
        let got : Some (bytes_of ds) ≡ Some bs = sym (ap (by_pairs ds) g) ∙ sym (ap (by_hyphen ds) f) ∙ e in
        let same : bytes_of ds ≡ bs = cc in
        subst (λ (xs : List ℕ). AllByRecursion (λ b. b < 256) xs × (ds ≡ block_text xs)) same (pairs g)
    by false g f = clash bs (sym (ap (by_pairs ds) g) ∙ sym (ap (by_hyphen ds) f) ∙ e)

    go : (t : Bool) → bytes_eq ds (codes "-") ≡ t → AllByRecursion (λ b. b < 256) bs × (ds ≡ block_text bs)
    go true f =
        let got : Some [] ≡ Some bs = sym (ap (by_hyphen ds) f) ∙ e in
        let same : [] ≡ bs = cc in
        subst (λ (xs : List ℕ). AllByRecursion (λ b. b < 256) xs × (ds ≡ block_text xs)) same (tt, (bytes_eq-Decides ds (codes "-")).0 f)
    go false f = by (in_pairs ds) refl f

no_hyphen : (b : ℕ) (bs : List ℕ) → bytes_eq (hexed (b ∷ bs)) (codes "-") ≡ false
unfolding hexed
no_hyphen b bs = and_right (eqb (hex_digit (b / 16)) 45) false refl

-- and written bytes are read as themselves
pub are_bytes : (bs : List ℕ) → AllByRecursion (λ b. b < 256) bs → bytes_at (block_text bs) ≡ Some bs
unfolding bytes_at by_pairs by_hyphen
are_bytes [] h = refl
are_bytes (b ∷ bs) h =
    let ds = hexed (b ∷ bs) in
    let long = length_hexed (b ∷ bs) in
    let even : length ds % 2 ≡ 0 = omega arith in
    let ok : in_pairs ds ≡ true = and_from (leb 1 (length ds) && eqb (length ds % 2) 0) (all_hex ds)
    (and_from (leb 1 (length ds)) (eqb (length ds % 2) 0) (le-leb 1 (length ds) (omega arith)) (eq-eqb (length ds % 2) 0 even))
    (digits_hex (b ∷ bs) h) in
    ap (by_hyphen ds) (no_hyphen b bs)
    ∙ ap (by_pairs ds) ok ∙ ap Some (bytes_back (b ∷ bs) h)

-- ---- the digits that are left of some

-- two digits in front, or fewer than two in all
pub pair_on : (ds : List ℕ) → 2 ≤ length ds
    → bytes_of ds ≡ (hex_value (get_or ds 0 0) * 16 + hex_value (get_or ds 1 0)) ∷ bytes_of (drop 2 ds)
unfolding bytes_of
pair_on [] h = absurd (omega arith)
pair_on (a ∷ []) h = absurd (omega arith)
pair_on (a ∷ (b ∷ cs)) h = refl

pub pair_end : (ds : List ℕ) → length ds < 2 → bytes_of ds ≡ []
unfolding bytes_of
pair_end [] h = refl
pair_end (a ∷ []) h = refl
pair_end (a ∷ (b ∷ cs)) h = absurd (omega arith)

-- which way bytes are read
pub at_hyphen : (ds : List ℕ) → ds ≡ codes "-" → Some (bytes_of []) ≡ bytes_at ds
unfolding bytes_at bytes_of
at_hyphen ds e = ap bytes_at (sym e)

pub at_others : (ds : List ℕ) → bytes_eq ds (codes "-") ≡ false → in_pairs ds ≡ false → None ≡ bytes_at ds
unfolding bytes_at by_hyphen by_pairs
at_others ds ne f = sym (ap (by_hyphen ds) ne ∙ ap (by_pairs ds) f)

pub at_pairs : (ds : List ℕ) → bytes_eq ds (codes "-") ≡ false → in_pairs ds ≡ true → Some (bytes_of ds) ≡ bytes_at ds
unfolding bytes_at by_hyphen by_pairs
at_pairs ds ne f = sym (ap (by_hyphen ds) ne ∙ ap (by_pairs ds) f)

-- one byte more of those that are left, and none
pub decode_on : (so_far pushed rest all : List ℕ) (x : ℕ) → pushed ≡ so_far ++ (x ∷ []) → 2 ≤ length rest
    → x ≡ hex_value (get_or rest 0 0) * 16 + hex_value (get_or rest 1 0) → so_far ++ bytes_of rest ≡ all
    → pushed ++ bytes_of (take (length rest - 2) (drop 2 rest)) ≡ all
decode_on so_far pushed rest all x p long e inv =
    ap (λ ys. ys ++ bytes_of (take (length rest - 2) (drop 2 rest))) p
    ∙ append_assoc so_far (x ∷ []) (bytes_of (take (length rest - 2) (drop 2 rest)))
    ∙ ap (λ ys. so_far ++ (x ∷ bytes_of ys)) (take_rest rest 2)
    ∙ ap (λ y. so_far ++ (y ∷ bytes_of (drop 2 rest))) e
    ∙ ap (λ ys. so_far ++ ys) (sym (pair_on rest long)) ∙ inv

pub decode_end : (so_far rest all : List ℕ) → length rest < 2 → so_far ++ bytes_of rest ≡ all → so_far ≡ all
decode_end so_far rest all short inv =
    sym (append-nil so_far) ∙ ap (λ ys. so_far ++ ys) (sym (pair_end rest short)) ∙ inv
