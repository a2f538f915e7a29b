-- A line has a value exactly if it is that value written in decimal.
use Rattle.std.proofs.Common.{◌≡◌, ℕ, ◌+◌, ◌^◌, ◌<◌, Bool, true, false, eqb, ◌⊎◌, List, [], ◌∷◌, ◌++◌, length, take, drop, is_some, Some, None, Ok, Err, decimal, Option, Result, sym, refl, ap, ◌∙◌, subst, inl, inr, arith}
use Rattle.std.specs.Char.{is_ascii_digit}
use Rattle.std.specs.List.{prefix_len}
use Rattle.std.specs.Str.{all_ascii_digits}
use Rattle.std.proofs.lemmas.List.{append-nil, take-append-drop, drop-drop, take_at, drop_at}
use Rattle.std.proofs.lemmas.Bool.{cond-true, cond-false, eqb-true, and_parts}
use Rattle.std.proofs.lemmas.Bool.Decides.{nat_tests}
use Rattle.refusals.specs.declared.Refusal.{Refusal}
use Rattle.refusals.specs.declared.Refusal.TheVariants.{FirstByte, LineForm}
use Rattle.items.specs.Items.{Part, letter, number, break, part_from, part_at}
use Rattle.items.specs.Lines.{kind_of, kind_in, kind_at, number_in, ended, paired, numbered, lettered, well_formed, line_of}
use Rattle.items.specs.Texts.{text_of, Short, Spells}
use Rattle.items.specs.declared.line.Kind.{Kind}
use Rattle.items.specs.declared.line.Kind.TheVariants as kind
use Rattle.items.specs.declared.line.Line.{Line}
use Rattle.items.specs.declared.line.Line.TheVariants as line
use Rattle.items.proofs.Decimal.{clash, numeral_is, is_numeral, digits_in}

-- ---- the item at a place, read off what is left of the line

at_from : (l xs : List ℕ) (at : ℕ) → drop at l ≡ xs → part_at l at ≡ part_from xs at
unfolding part_at
at_from l xs at e = ap (λ ys. part_from ys at) e

-- what is left behind an item
drop_on : (l xs : List ℕ) (at n b : ℕ) → drop at l ≡ b ∷ xs → drop (at + 1 + n) l ≡ drop n xs
drop_on l xs at n b e = sym (drop-drop n (at + 1) l) ∙ ap (drop n) (sym (drop-drop 1 at l) ∙ ap (drop 1) e)

-- how many digits stand in front
abbrev pub run : List ℕ → ℕ
run bs = prefix_len is_ascii_digit bs

pub at_space : (l bs : List ℕ) (at b : ℕ) → drop at l ≡ b ∷ bs → eqb b 32 ≡ true
    → part_at l at ≡ (number (take (run bs) bs), at + 1 + run bs)
at_space l bs at b f g = at_from l (b ∷ bs) at f ∙ cond-true _ (number (take (run bs) bs), at + 1 + run bs) (letter b, at + 1) g

pub at_letter : (l bs : List ℕ) (at b : ℕ) → drop at l ≡ b ∷ bs → eqb b 32 ≡ false → part_at l at ≡ (letter b, at + 1)
at_letter l bs at b f g = at_from l (b ∷ bs) at f ∙ cond-false _ (number (take (run bs) bs), at + 1 + run bs) (letter b, at + 1) g

number_here : (l : List ℕ) (at a : ℕ) → number_in (part_at l at).0 ≡ Some a
    → (a < 10 ^ 7) × (drop at l ≡ 32 ∷ (decimal a ++ drop (part_at l at).1 l))
number_here l at a e = go (drop at l) refl
  where
    told : (q : Part × ℕ) → part_at l at ≡ q → number_in q.0 ≡ Some a
    told q p = ap (λ (r : Part × ℕ). number_in r.0) (sym p) ∙ e

    space : (b : ℕ) (bs : List ℕ) → drop at l ≡ b ∷ bs → (t : Bool) → eqb b 32 ≡ t
        → (a < 10 ^ 7) × (drop at l ≡ 32 ∷ (decimal a ++ drop (part_at l at).1 l))
    space b bs f true g =
        let p = at_space l bs at b f g in
        let n = numeral_is (take (run bs) bs) a (told _ p) in (
          n.0,
          f ∙ ap (λ c. c ∷ bs) (eqb-true b 32 g)
              ∙ ap (λ ys. 32 ∷ ys)
              (sym (take-append-drop (run bs) bs) ∙ ap (λ ys. ys ++ drop (run bs) bs) n.1
              ∙ ap (λ ys. decimal a ++ ys) (sym (drop_on l bs at (run bs) b f) ∙ ap (λ (r : Part × ℕ). drop r.1 l) (sym p))),
        )
    space b bs f false g = clash a (told _ (at_letter l bs at b f g))

    go : (xs : List ℕ) → drop at l ≡ xs → (a < 10 ^ 7) × (drop at l ≡ 32 ∷ (decimal a ++ drop (part_at l at).1 l))
    go [] f = clash a (told _ (at_from l [] at f))
    go (b ∷ bs) f = space b bs f (eqb b 32) refl

break_here : (l : List ℕ) (at : ℕ) → (part_at l at).0 ≡ break → drop at l ≡ []
break_here l at e = go (drop at l) refl
  where
    told : (q : Part × ℕ) → part_at l at ≡ q → q.0 ≡ break
    told q p = ap (λ (r : Part × ℕ). r.0) (sym p) ∙ e

    item : (b : ℕ) (bs : List ℕ) → drop at l ≡ b ∷ bs → (t : Bool) → eqb b 32 ≡ t → drop at l ≡ []
    item b bs f true g =
        let no : number (take (run bs) bs) ≡ break = told _ (at_space l bs at b f g) in
        cc
    item b bs f false g =
        let no : letter b ≡ break = told _ (at_letter l bs at b f g) in
        cc

    go : (xs : List ℕ) → drop at l ≡ xs → drop at l ≡ []
    go [] f = f
    go (b ∷ bs) f = item b bs f (eqb b 32) refl

-- an item that is a number, by its value
pub number_part : (p : Part) (a : ℕ) → number_in p ≡ Some a → (a < 10 ^ 7) × (p ≡ number (decimal a))
number_part (letter b) a e = clash a e
number_part (number ds) a e = let n = numeral_is ds a e in (n.0, ap number n.1)
number_part break a e = clash a e

run_digits : (ds tail : List ℕ) → all_ascii_digits ds ≡ true → run tail ≡ 0 → run (ds ++ tail) ≡ length ds
run_digits [] tail h e = e
run_digits (d ∷ ds) tail h e =
    let p = and_parts (is_ascii_digit d) (all_ascii_digits ds) h in
    let ih = run_digits ds tail p.1 e in
    let first = cond-true (is_ascii_digit d) (1 + run (ds ++ tail)) 0 p.0 in
    omega arith

pub here_number : (l tail : List ℕ) (at a : ℕ) → a < 10 ^ 7 → run tail ≡ 0 → drop at l ≡ 32 ∷ (decimal a ++ tail)
    → ((part_at l at).0 ≡ number (decimal a)) × (drop (part_at l at).1 l ≡ tail)
here_number l tail at a h none f =
    let bs = decimal a ++ tail in
    let p = at_space l bs at 32 f refl in
    let n = run_digits (decimal a) tail (digits_in a (omega arith)) none in (
      ap (λ (r : Part × ℕ). r.0) p ∙ ap number (take_at (decimal a) tail (run bs) (sym n)),
      ap (λ (r : Part × ℕ). drop r.1 l) p ∙ drop_on l bs at (run bs) 32 f ∙ drop_at (decimal a) tail (run bs) (sym n),
    )

here_value : (l : List ℕ) (at a : ℕ) → a < 10 ^ 7 → (part_at l at).0 ≡ number (decimal a) → number_in (part_at l at).0 ≡ Some a
here_value l at a h e = ap number_in e ∙ is_numeral a h

pub here_break : (l : List ℕ) (at : ℕ) → drop at l ≡ [] → (part_at l at).0 ≡ break
here_break l at f = ap (λ (r : Part × ℕ). r.0) (at_from l [] at f)

-- ---- the parts of a line

abbrev pub byte_of : Kind → ℕ
byte_of kind.Regions = 82
byte_of kind.Polygon = 80
byte_of kind.Pair = 45
byte_of kind.Cap = 67
byte_of kind.Stop = 46

kind_byte : (b : ℕ) (k : Kind) → kind_of b ≡ Some k → b ≡ byte_of k
kind_byte b kind.Regions e = grind (arith, nat_tests)
kind_byte b kind.Polygon e = grind (arith, nat_tests)
kind_byte b kind.Pair e = grind (arith, nat_tests)
kind_byte b kind.Cap e = grind (arith, nat_tests)
kind_byte b kind.Stop e = grind (arith, nat_tests)

ended_is : (p : Part) (y x : Line) → ended p y ≡ Some x → (p ≡ break) × (y ≡ x)
ended_is (letter b) y x e = clash x e
ended_is (number ds) y x e = clash x e
ended_is break y x e = (refl, cc)

-- an item that is one of the five letters
pub letter_part : (p : Part) (k : Kind) → kind_in p ≡ Some k → p ≡ letter (byte_of k)
letter_part (letter b) k e = ap letter (kind_byte b k e)
letter_part (number ds) k e = clash k e
letter_part break k e = clash k e

-- a line of one number: nothing is left behind it
alone : (l : List ℕ) (at b a : ℕ) → (part_at l at).0 ≡ break
    → b ∷ (32 ∷ (decimal a ++ drop at l)) ≡ b ∷ (32 ∷ decimal a)
alone l at b a e =
    ap (λ ys. b ∷ (32 ∷ ys)) (ap (λ ys. decimal a ++ ys) (break_here l at e) ∙ append-nil (decimal a))

-- a value that some bytes spell
abbrev Spelt : List ℕ → Line → Type 0
Spelt l x = Short x × (l ≡ text_of x)

paired_is : (a : ℕ) (l : List ℕ) (at : ℕ) (x : Line) → paired a l at ≡ Some x → a < 10 ^ 7
    → Spelt (45 ∷ (32 ∷ (decimal a ++ drop at l))) x
paired_is a l at x e h = go (number_in (part_at l at).0) refl
  where
    by : Option ℕ → Option Line
    by o = elim o [ None ↦ None | Some b ↦ ended (part_at l (part_at l at).1).0 (line.Pair a b) ]

    go : (o : Option ℕ) → number_in (part_at l at).0 ≡ o → Spelt (45 ∷ (32 ∷ (decimal a ++ drop at l))) x
    go None f = clash x (sym (ap by f) ∙ e)
    go (Some b) f =
        let q = number_here l at b f in
        let d = ended_is (part_at l (part_at l at).1).0 (line.Pair a b) x (sym (ap by f) ∙ e) in
        subst (λ y. Spelt (45 ∷ (32 ∷ (decimal a ++ drop at l))) y) d.1 (
          (h, q.0),
          ap (λ ys. 45 ∷ (32 ∷ (decimal a ++ ys)))
              (q.1 ∙ ap (λ ys. 32 ∷ ys) (ap (λ ys. decimal b ++ ys) (break_here l (part_at l at).1 d.0) ∙ append-nil (decimal b))),
        )

numbered_is : (k : Kind) (a : ℕ) (l : List ℕ) (at : ℕ) (x : Line) → numbered k a l at ≡ Some x → a < 10 ^ 7
    → Spelt (byte_of k ∷ (32 ∷ (decimal a ++ drop at l))) x
numbered_is kind.Regions a l at x e h =
    let d = ended_is (part_at l at).0 (line.Regions a) x e in
    subst (λ y. Spelt (82 ∷ (32 ∷ (decimal a ++ drop at l))) y) d.1 (h, alone l at 82 a d.0)
numbered_is kind.Polygon a l at x e h =
    let d = ended_is (part_at l at).0 (line.Polygon a) x e in
    subst (λ y. Spelt (80 ∷ (32 ∷ (decimal a ++ drop at l))) y) d.1 (h, alone l at 80 a d.0)
numbered_is kind.Pair a l at x e h = paired_is a l at x e h
numbered_is kind.Cap a l at x e h =
    let d = ended_is (part_at l at).0 (line.Cap a) x e in
    subst (λ y. Spelt (67 ∷ (32 ∷ (decimal a ++ drop at l))) y) d.1 (h, alone l at 67 a d.0)
numbered_is kind.Stop a l at x e h =
    let d = ended_is (part_at l at).0 (line.Stop a) x e in
    subst (λ y. Spelt (46 ∷ (32 ∷ (decimal a ++ drop at l))) y) d.1 (h, alone l at 46 a d.0)

by_number : Kind → List ℕ → ℕ → Option ℕ → Option Line
by_number k l at o = elim o [ None ↦ None | Some a ↦ numbered k a l (part_at l at).1 ]

lettered_is : (k : Kind) (l : List ℕ) (at : ℕ) (x : Line) → lettered k l at ≡ Some x → Spelt (byte_of k ∷ drop at l) x
unfolding by_number
lettered_is k l at x e = go (number_in (part_at l at).0) refl
  where
    go : (o : Option ℕ) → number_in (part_at l at).0 ≡ o → Spelt (byte_of k ∷ drop at l) x
    go None f = clash x (sym (ap (by_number k l at) f) ∙ e)
    go (Some a) f =
        let q = number_here l at a f in
        subst (λ ys. Spelt (byte_of k ∷ ys) x) (sym q.1)
        (numbered_is k a l (part_at l at).1 x (sym (ap (by_number k l at) f) ∙ e) q.0)

-- the letter is the first byte
letter_here : (l : List ℕ) (k : Kind) → kind_in (part_at l 0).0 ≡ Some k
    → (l ≡ byte_of k ∷ drop (part_at l 0).1 l)
letter_here [] k e = clash k (ap (λ (r : Part × ℕ). kind_in r.0) (sym (at_from [] [] 0 refl)) ∙ e)
letter_here (b ∷ bs) k e = go (eqb b 32) refl
  where
    told : (q : Part × ℕ) → part_at (b ∷ bs) 0 ≡ q → kind_in q.0 ≡ Some k
    told q p = ap (λ (r : Part × ℕ). kind_in r.0) (sym p) ∙ e

    go : (t : Bool) → eqb b 32 ≡ t → b ∷ bs ≡ byte_of k ∷ drop (part_at (b ∷ bs) 0).1 (b ∷ bs)
    go true g = clash k (told _ (at_space (b ∷ bs) bs 0 b refl g))
    go false g =
        let p = at_letter (b ∷ bs) bs 0 b refl g in
        ap (λ c. c ∷ bs) (kind_byte b k (told _ p))
        ∙ ap (λ (r : Part × ℕ). byte_of k ∷ drop r.1 (b ∷ bs)) (sym p)

by_kind : List ℕ → Option Kind → Result Line Refusal
by_kind l o = elim o [ None ↦ Err FirstByte | Some k ↦ well_formed (lettered k l (part_at l 0).1) ]

formed : (o : Option Line) (x : Line) → well_formed o ≡ Ok x → o ≡ Some x
formed None x e = cc
formed (Some y) x e = cc

value_spelt : (l : List ℕ) (x : Line) → line_of l ≡ Ok x → Spelt l x
unfolding line_of by_kind
value_spelt l x e = go (kind_in (part_at l 0).0) refl
  where
    go : (o : Option Kind) → kind_in (part_at l 0).0 ≡ o → Spelt l x
    go None f =
        let no : ◌≡◌ {A = Result Line Refusal} (Err FirstByte) (Ok x) = sym (ap (by_kind l) f) ∙ e in
        cc
    go (Some k) f =
        subst (λ ys. Spelt ys x) (sym (letter_here l k f))
        (lettered_is k l (part_at l 0).1 x (formed (lettered k l (part_at l 0).1) x (sym (ap (by_kind l) f) ∙ e)))

-- ---- the other way: what is written is read

-- a line of a known letter, whose first number and what follows it are known
lettered_from : (k : Kind) (l tail : List ℕ) (at a : ℕ) (y : Option Line) → a < 10 ^ 7 → run tail ≡ 0
    → drop at l ≡ 32 ∷ (decimal a ++ tail)
    → ((to : ℕ) → drop to l ≡ tail → numbered k a l to ≡ y) → lettered k l at ≡ y
unfolding by_number
lettered_from k l tail at a y h none f rest =
    let n = here_number l tail at a h none f in
    ap (by_number k l at) (here_value l at a h n.0) ∙ rest (part_at l at).1 n.1

ended_from : (l : List ℕ) (at : ℕ) (y : Line) → drop at l ≡ [] → ended (part_at l at).0 y ≡ Some y
ended_from l at y f = ap (λ p. ended p y) (here_break l at f)

alone_from : (b a : ℕ) → drop 1 (b ∷ (32 ∷ decimal a)) ≡ 32 ∷ (decimal a ++ [])
alone_from b a = ap (λ ys. 32 ∷ ys) (sym (append-nil (decimal a)))

paired_from : (a b : ℕ) (l : List ℕ) (at : ℕ) → b < 10 ^ 7 → drop at l ≡ 32 ∷ decimal b → paired a l at ≡ Some (line.Pair a b)
paired_from a b l at h f =
    let n = here_number l [] at b h refl (f ∙ ap (λ ys. 32 ∷ ys) (sym (append-nil (decimal b)))) in
    ap by (here_value l at b h n.0) ∙ ended_from l (part_at l at).1 (line.Pair a b) n.1
  where
    by : Option ℕ → Option Line
    by o = elim o [ None ↦ None | Some c ↦ ended (part_at l (part_at l at).1).0 (line.Pair a c) ]

spelt_value : (x : Line) → Short x → line_of (text_of x) ≡ Ok x
unfolding line_of part_at
spelt_value (line.Regions n) h =
    ap well_formed (lettered_from kind.Regions (text_of (line.Regions n)) [] 1 n _ h refl (alone_from 82 n)
    (λ to f. ended_from (text_of (line.Regions n)) to (line.Regions n) f))
spelt_value (line.Polygon n) h =
    ap well_formed (lettered_from kind.Polygon (text_of (line.Polygon n)) [] 1 n _ h refl (alone_from 80 n)
    (λ to f. ended_from (text_of (line.Polygon n)) to (line.Polygon n) f))
spelt_value (line.Pair a b) h =
    ap well_formed (lettered_from kind.Pair (text_of (line.Pair a b)) (32 ∷ decimal b) 1 a _ h.0 refl refl
    (λ to f. paired_from a b (text_of (line.Pair a b)) to h.1 f))
spelt_value (line.Cap c) h =
    ap well_formed (lettered_from kind.Cap (text_of (line.Cap c)) [] 1 c _ h refl (alone_from 67 c)
    (λ to f. ended_from (text_of (line.Cap c)) to (line.Cap c) f))
spelt_value (line.Stop m) h =
    ap well_formed (lettered_from kind.Stop (text_of (line.Stop m)) [] 1 m _ h refl (alone_from 46 m)
    (λ to f. ended_from (text_of (line.Stop m)) to (line.Stop m) f))

pub spells : (l : List ℕ) → Spells l (line_of l)
spells l x = (λ e. value_spelt l x e, λ h. ap line_of h.1 ∙ spelt_value x h.0)

-- ---- which fault a line has

first_kind : (l : List ℕ) → kind_in (part_at l 0).0 ≡ kind_at l
first_kind [] = ap (λ (r : Part × ℕ). kind_in r.0) (at_from [] [] 0 refl)
first_kind (b ∷ bs) = go (eqb b 32) refl
  where
    go : (t : Bool) → eqb b 32 ≡ t → kind_in (part_at (b ∷ bs) 0).0 ≡ kind_of b
    go true g = ap (λ (r : Part × ℕ). kind_in r.0) (at_space (b ∷ bs) bs 0 b refl g) ∙ ap kind_of (sym (eqb-true b 32 g))
    go false g = ap (λ (r : Part × ℕ). kind_in r.0) (at_letter (b ∷ bs) bs 0 b refl g)

-- an unknown first byte, or behind a known one a malformed rest
pub bad_line : (l : List ℕ) (k : Refusal) → line_of l ≡ Err k
    → ((k ≡ FirstByte) × (kind_at l ≡ None)) ⊎ ((k ≡ LineForm) × (is_some (kind_at l) ≡ true))
unfolding line_of by_kind
bad_line l k e = go (kind_in (part_at l 0).0) refl
  where
    formed-not : (o : Option Line) → well_formed o ≡ Err k → k ≡ LineForm
    formed-not None f = cc
    formed-not (Some x) f = cc

    go : (o : Option Kind) → kind_in (part_at l 0).0 ≡ o
        → ((k ≡ FirstByte) × (kind_at l ≡ None)) ⊎ ((k ≡ LineForm) × (is_some (kind_at l) ≡ true))
    go None f =
        let same : ◌≡◌ {A = Result Line Refusal} (Err FirstByte) (Err k) = sym (ap (by_kind l) f) ∙ e in
        inl (cc, sym (first_kind l) ∙ f)
    go (Some j) f =
        inr (formed-not (lettered j l (part_at l 0).1) (sym (ap (by_kind l) f) ∙ e), ap is_some (sym (first_kind l) ∙ f))
