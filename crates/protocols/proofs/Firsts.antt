-- The first line of some bytes, and the number of the first unreadable line.
use Rattle.std.proofs.Common.{◌≡◌, ℕ, ◌+◌, ◌<◌, ◌≤◌, List, [], ◌∷◌, ◌++◌, length, Some, None, Ok, Err, Option, Result, sym, refl, ap, ◌∙◌, arith, length-append}
use Rattle.sheets.specs.Cut.{Cut, cut}
use Rattle.sheets.proofs.Cuts.{cut_line, cut_rest}
use Rattle.protocols.specs.Laws.{Begins, FirstUnreadable, Readable}
use Rattle.protocols.specs.Reading.{parted, request_at, in_front, requests_from, requests_in, ordered, unreadable_of}
use Rattle.protocols.specs.Requests.{Request, Good, text_of}
use Rattle.items.proofs.Decimal.{clash}
use Rattle.protocols.proofs.Parting.{is_parted, parted_is, parted_front, parted_none}
use Rattle.protocols.proofs.Spelling.{spells, text_without}
use Rattle.protocols.proofs.Whole.{asks, from_none, from_some, refuses}

-- ---- the first line

abbrev Parts : Type 0
Parts = Option (List ℕ × List ℕ)

-- what is written in front is cut off
written_parts : (bytes : List ℕ) (q : Request) (r : List ℕ) → Good q → bytes ≡ text_of q ++ (10 ∷ r) → parted 10 bytes ≡ Some (text_of q, r)
written_parts bytes q r good e = ap (parted 10) e ∙ is_parted 10 (text_of q) r (text_without q good)

pub begins_cut : (bytes : List ℕ) → parted 10 bytes ≡ None → Begins bytes None
begins_cut bytes e q r = (
  λ f. clash (q, r) f,
  λ h. clash (text_of q, r) (sym e ∙ written_parts bytes q r h.0 h.1),
)

pub begins_bad : (bytes l r : List ℕ) → parted 10 bytes ≡ Some (l, r) → request_at l ≡ None → Begins bytes None
begins_bad bytes l r e none q s = (
  λ f. clash (q, s) f,
  λ h.
      let both : ◌≡◌ {A = Parts} (Some (l, r)) (Some (text_of q, s)) = sym e ∙ written_parts bytes q s h.0 h.1 in
      let same : (l, r) ≡ (text_of q, s) = cc in
      let line : l ≡ text_of q = ap (λ (x : List ℕ × List ℕ). x.0) same in
      clash q (sym none ∙ (spells l q).1 (h.0, line)),
)

pub begins_good : (bytes l r : List ℕ) (p : Request) → parted 10 bytes ≡ Some (l, r) → request_at l ≡ Some p → Begins bytes (Some (p, r))
begins_good bytes l r p e some q s = (
  λ f.
      let same : (p, r) ≡ (q, s) = cc in
      let first : p ≡ q = ap (λ (x : Request × List ℕ). x.0) same in
      let last : r ≡ s = ap (λ (x : Request × List ℕ). x.1) same in
      let told = (spells l q).0 (some ∙ ap Some first) in
      (told.0, parted_is 10 bytes l r e ∙ ap (λ x. x ++ (10 ∷ r)) told.1 ∙ ap (λ x. text_of q ++ (10 ∷ x)) last),
  λ h.
      let both : ◌≡◌ {A = Parts} (Some (l, r)) (Some (text_of q, s)) = sym e ∙ written_parts bytes q s h.0 h.1 in
      let same : (l, r) ≡ (text_of q, s) = cc in
      let line : l ≡ text_of q = ap (λ (x : List ℕ × List ℕ). x.0) same in
      let behind : r ≡ s = ap (λ (x : List ℕ × List ℕ). x.1) same in
      let asked : Some p ≡ Some q = sym some ∙ (spells l q).1 (h.0, line) in
      let first : p ≡ q = cc in
      ap (λ x. Some (x, r)) first ∙ ap (λ x. Some (q, x)) behind,
)

-- ---- the first unreadable line

-- what is left, of which the first line has the number n
abbrev pub unreadable_from : ℕ → List ℕ → Option ℕ
unreadable_from n rest = unreadable_of (requests_from n (cut rest).lines (cut rest).rest)

in_front_unreadable : (q : Request) (x : Result (List Request) ℕ) → unreadable_of (in_front q x) ≡ unreadable_of x
in_front_unreadable q (Ok qs) = refl
in_front_unreadable q (Err n) = refl

by_cut : ℕ → Cut → Option ℕ
by_cut n c = unreadable_of (requests_from n c.lines c.rest)

-- behind a line that is read
pub unreadable_on : (bytes : List ℕ) (n : ℕ) (rest : List ℕ) (q : Request) (r : List ℕ) → Begins rest (Some (q, r)) → unreadable_from n rest ≡ unreadable_of (requests_in bytes) → unreadable_from (n + 1) r ≡ unreadable_of (requests_in bytes)
unfolding by_cut
unreadable_on bytes n rest q r begins e =
    let told = (begins q r).0 refl in
    let line = (spells (text_of q) q).1 (told.0, refl) in
    sym (in_front_unreadable q (requests_from (n + 1) (cut r).lines (cut r).rest))
    ∙ ap unreadable_of (sym (from_some n (text_of q) (cut r).lines (cut r).rest q line))
    ∙ sym (ap (by_cut n) (ap cut told.1 ∙ cut_line (text_of q) r (text_without q told.0)))
    ∙ e

pub shorter : (rest : List ℕ) (q : Request) (r : List ℕ) → Begins rest (Some (q, r)) → 1 + length r ≤ length rest
shorter rest q r begins =
    let told = (begins q r).0 refl in
    let long = ap length told.1 ∙ length-append (text_of q) (10 ∷ r) in
    omega arith

-- before the first line
pub unreadable_first : (bytes : List ℕ) → unreadable_from 1 bytes ≡ unreadable_of (requests_in bytes)
unfolding requests_in
unreadable_first bytes = refl

pub unreadable_end : (bytes : List ℕ) (n : ℕ) (rest : List ℕ) → length rest ≡ 0 → unreadable_from n rest ≡ unreadable_of (requests_in bytes) → None ≡ unreadable_of (requests_in bytes)
unfolding requests_from cut
unreadable_end bytes n [] none e = e
unreadable_end bytes n (b ∷ rest) none e = absurd (omega arith)

-- a line that is not read, where bytes are left
pub unreadable_here : (bytes : List ℕ) (n : ℕ) (rest : List ℕ) → Begins rest None → 0 < length rest → unreadable_from n rest ≡ unreadable_of (requests_in bytes) → Some n ≡ unreadable_of (requests_in bytes)
unfolding by_cut requests_from
unreadable_here bytes n rest begins some e = go (parted 10 rest) refl
  where
    ended : (r : List ℕ) → 0 < length r → Some n ≡ unreadable_of (requests_from n [] r)
    ended [] h = absurd (omega arith)
    ended (b ∷ r) h = refl

    line : (p : List ℕ × List ℕ) → parted 10 rest ≡ Some p → (o : Option Request) → request_at p.0 ≡ o → Some n ≡ unreadable_of (requests_in bytes)
    line p f None g =
        sym (ap unreadable_of (from_none n p.0 (cut p.1).lines (cut p.1).rest g))
        ∙ sym (ap (by_cut n) (ap cut (parted_is 10 rest p.0 p.1 f) ∙ cut_line p.0 p.1 (parted_front 10 rest p.0 p.1 f)))
        ∙ e
    line p f (Some q) g =
        let told = (spells p.0 q).0 g in
        clash (q, p.1) ((begins q p.1).1 (told.0, parted_is 10 rest p.0 p.1 f ∙ ap (λ x. x ++ (10 ∷ p.1)) told.1))

    go : (o : Parts) → parted 10 rest ≡ o → Some n ≡ unreadable_of (requests_in bytes)
    go None f = ended rest some ∙ sym (ap (by_cut n) (cut_rest rest (parted_none 10 rest f))) ∙ e
    go (Some p) f = line p f (request_at p.0) refl

-- what the number says
pub told_readable : (bytes : List ℕ) (o : Option ℕ) → o ≡ unreadable_of (requests_in bytes) → o ≡ None → Readable bytes
told_readable bytes o e none = go (requests_in bytes) refl
  where
    go : (x : Result (List Request) ℕ) → requests_in bytes ≡ x → Readable bytes
    go (Ok qs) f = (qs, (asks bytes qs).0 f)
    go (Err n) f = clash n (sym none ∙ e ∙ ap unreadable_of f)

pub told_unreadable : (bytes : List ℕ) (n : ℕ) → Some n ≡ unreadable_of (requests_in bytes) → FirstUnreadable bytes n
told_unreadable bytes n e = go (requests_in bytes) refl
  where
    go : (x : Result (List Request) ℕ) → requests_in bytes ≡ x → FirstUnreadable bytes n
    go (Ok qs) f = clash n (sym (e ∙ ap unreadable_of f))
    go (Err m) f =
        let got : Some n ≡ Some m = e ∙ ap unreadable_of f in
        let same : m ≡ n = cc in
        refuses bytes n (ap ordered f ∙ ap Err same)
