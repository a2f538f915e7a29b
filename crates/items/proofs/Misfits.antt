-- The item at fault is the first with which no line goes on.
use Rattle.std.proofs.Common.{◌≡◌, ◌≢◌, ℕ, zero, suc, ◌^◌, ◌<◌, Bool, true, false, eqb, ltb, List, [], ◌∷◌, ◌++◌, length, get_or, drop, Some, None, Ok, Err, decimal, Option, Result, sym, refl, ap, ◌∙◌, subst, arith}
use Rattle.std.proofs.lemmas.Bool.{ltb-true, ltb-false, eqb-true, eq-eqb}
use Rattle.std.proofs.lemmas.List.{append-nil, get_or_past}
use Rattle.refusals.specs.declared.Refusal.{Refusal}
use Rattle.refusals.specs.declared.Refusal.TheVariants.{FirstByte, LineForm}
use Rattle.items.specs.Items.{Part, letter, number, break, part_at, begins_at, item_start, item_of}
use Rattle.items.specs.Lines.{kind_in, kind_of_line, number_in, ended, numbered, lettered, well_formed, line_of}
use Rattle.items.specs.Texts.{text_of, Short}
use Rattle.items.specs.Faults.{spot, numbers_behind, misfit, fault_byte, line_read, ItemPlace, SameItems, AtFault, Located, ByHand}
use Rattle.items.specs.declared.item.Placed.{Placed}
use Rattle.items.specs.declared.line.Kind.{Kind}
use Rattle.items.specs.declared.line.Kind.TheVariants as kind
use Rattle.items.specs.declared.line.Line.{Line}
use Rattle.items.specs.declared.line.Line.TheVariants.{Regions, Polygon, Pair, Cap, Stop}
use Rattle.items.proofs.Decimal.{clash, is_numeral}
use Rattle.items.proofs.Faults.{misfit_here, misfit_on, fault_first, fault_rest, line_first, line_rest, read_good, read_bad}
use Rattle.items.proofs.Reading.{begins_end, begins_letter, begins_number}
use Rattle.items.proofs.Texts.{byte_of, letter_part, number_part, at_letter, here_number, here_break}

-- ---- the place of an item

places : (l : List ℕ) (at : ℕ) → ItemPlace l at (begins_at l at)
places l at = go (ltb at (length l)) refl
  where
    go : (t : Bool) → ltb at (length l) ≡ t → ItemPlace l at (begins_at l at)
    go true f =
        let within = ltb-true at (length l) f in record {
          number = λ e. begins_number l at within e;
          other = λ e. begins_letter l at within e;
        }
    go false f =
        let past = ltb-false at (length l) f in record {
          number = λ e. let none : 0 ≡ 32 = sym (get_or_past l at 0 past) ∙ e in cc;
          other = λ e. begins_end l at past;
        }

-- ---- the items of a line as it is written

-- a line of one number
single : (c n : ℕ) → eqb c 32 ≡ false → n < 10 ^ 7 → (l : List ℕ) → l ≡ c ∷ (32 ∷ decimal n)
    → (item_of l 0 ≡ letter c) × (item_of l 1 ≡ number (decimal n)) × (item_of l 2 ≡ break)
single c n f h l e =
    let p = at_letter l (32 ∷ decimal n) 0 c e f in
    let one = ap (λ (r : Part × ℕ). r.1) p in
    let left : drop (item_start l 1) l ≡ 32 ∷ (decimal n ++ []) = ap (λ m. drop m l) one ∙ ap (drop 1) e ∙ ap (λ ys. 32 ∷ ys) (sym (append-nil (decimal n))) in
    let q = here_number l [] (item_start l 1) n h refl left in (
      ap (λ (r : Part × ℕ). r.0) p,
      q.0,
      here_break l (item_start l 2) q.1,
    )

double : (a b : ℕ) → a < 10 ^ 7 → b < 10 ^ 7
    → (item_of (text_of (Pair a b)) 0 ≡ letter 45)
    × (item_of (text_of (Pair a b)) 1 ≡ number (decimal a))
    × (item_of (text_of (Pair a b)) 2 ≡ number (decimal b))
    × (item_of (text_of (Pair a b)) 3 ≡ break)
double a b h g =
    let l = text_of (Pair a b) in
    let p = at_letter l (32 ∷ (decimal a ++ (32 ∷ decimal b))) 0 45 refl refl in
    let one = ap (λ (r : Part × ℕ). r.1) p in
    let q = here_number l (32 ∷ decimal b) (item_start l 1) a h refl (ap (λ m. drop m l) one) in
    let r = here_number l [] (item_start l 2) b g refl (q.1 ∙ ap (λ ys. 32 ∷ ys) (sym (append-nil (decimal b)))) in (
      ap (λ (s : Part × ℕ). s.0) p,
      q.0,
      r.0,
      here_break l (item_start l 3) r.1,
    )

first_item : (x : Line) → Short x → item_of (text_of x) 0 ≡ letter (byte_of (kind_of_line x))
first_item (Regions n) h = (single 82 n refl h (text_of (Regions n)) refl).0
first_item (Polygon n) h = (single 80 n refl h (text_of (Polygon n)) refl).0
first_item (Pair a b) h = (double a b h.0 h.1).0
first_item (Cap n) h = (single 67 n refl h (text_of (Cap n)) refl).0
first_item (Stop n) h = (single 46 n refl h (text_of (Stop n)) refl).0

valued : (p : Part) (n : ℕ) → n < 10 ^ 7 → p ≡ number (decimal n) → (m : ℕ) × (number_in p ≡ Some m)
valued p n h e = (n, ap number_in e ∙ is_numeral n h)

-- behind the letter stands a number
second_item : (x : Line) → Short x → (n : ℕ) × (number_in (item_of (text_of x) 1) ≡ Some n)
second_item (Regions n) h = valued _ n h (single 82 n refl h (text_of (Regions n)) refl).1
second_item (Polygon n) h = valued _ n h (single 80 n refl h (text_of (Polygon n)) refl).1
second_item (Pair a b) h = valued _ a h.0 (double a b h.0 h.1).1
second_item (Cap n) h = valued _ n h (single 67 n refl h (text_of (Cap n)) refl).1
second_item (Stop n) h = valued _ n h (single 46 n refl h (text_of (Stop n)) refl).1

-- and then the line break, and in a pair line a second number before it
third_item : (x : Line) → Short x → kind_of_line x ≢ kind.Pair → item_of (text_of x) 2 ≡ break
third_item (Regions n) h k = (single 82 n refl h (text_of (Regions n)) refl).2
third_item (Polygon n) h k = (single 80 n refl h (text_of (Polygon n)) refl).2
third_item (Pair a b) h k = absurd (k refl)
third_item (Cap n) h k = (single 67 n refl h (text_of (Cap n)) refl).2
third_item (Stop n) h k = (single 46 n refl h (text_of (Stop n)) refl).2

pair_items : (x : Line) → Short x → kind_of_line x ≡ kind.Pair
    → ((n : ℕ) × (number_in (item_of (text_of x) 2) ≡ Some n)) × (item_of (text_of x) 3 ≡ break)
pair_items (Regions n) h k = cc
pair_items (Polygon n) h k = cc
pair_items (Pair a b) h k = let d = double a b h.0 h.1 in (valued _ b h.1 d.2, d.3)
pair_items (Cap n) h k = cc
pair_items (Stop n) h k = cc

-- ---- lines that begin with the same items

module _ (m l : List ℕ) where
  same_one : item_of m 0 ≡ item_of l 0 → SameItems 1 m l
  same_one e zero h = e
  same_one e (suc j) h = absurd (omega arith)

  same_two : item_of m 0 ≡ item_of l 0 → item_of m 1 ≡ item_of l 1 → SameItems 2 m l
  same_two e f zero h = e
  same_two e f (suc zero) h = f
  same_two e f (suc (suc j)) h = absurd (omega arith)

  same_three : item_of m 0 ≡ item_of l 0 → item_of m 1 ≡ item_of l 1 → item_of m 2 ≡ item_of l 2 → SameItems 3 m l
  same_three e f g zero h = e
  same_three e f g (suc zero) h = f
  same_three e f g (suc (suc zero)) h = g
  same_three e f g (suc (suc (suc j))) h = absurd (omega arith)

-- a line of that kind and with that first number
with_number : (k : Kind) (a : ℕ) → a < 10 ^ 7
    → (x : Line) × Short x × (item_of (text_of x) 0 ≡ letter (byte_of k)) × (item_of (text_of x) 1 ≡ number (decimal a))
with_number kind.Regions a h = let s = single 82 a refl h (text_of (Regions a)) refl in (Regions a, h, s.0, s.1)
with_number kind.Polygon a h = let s = single 80 a refl h (text_of (Polygon a)) refl in (Polygon a, h, s.0, s.1)
with_number kind.Pair a h = let zero : 0 < 10 ^ 7 = omega arith in let s = double a 0 h zero in (Pair a 0, (h, zero), s.0, s.1)
with_number kind.Cap a h = let s = single 67 a refl h (text_of (Cap a)) refl in (Cap a, h, s.0, s.1)
with_number kind.Stop a h = let s = single 46 a refl h (text_of (Stop a)) refl in (Stop a, h, s.0, s.1)

byte_kind : (k : Kind) → kind_in (letter (byte_of k)) ≡ Some k
byte_kind kind.Regions = refl
byte_kind kind.Polygon = refl
byte_kind kind.Pair = refl
byte_kind kind.Cap = refl
byte_kind kind.Stop = refl

-- ---- each item that may be at fault

module _ (l : List ℕ) (k : Kind) (is : kind_in (item_of l 0) ≡ Some k) where
  letter-is : item_of l 0 ≡ letter (byte_of k)
  letter-is = letter_part (item_of l 0) k is

  same_kind : (x : Line) → Short x → item_of (text_of x) 0 ≡ item_of l 0 → kind_of_line x ≡ k
  same_kind x h e =
      let both : Some (kind_of_line x) ≡ Some k = sym (byte_kind (kind_of_line x)) ∙ ap kind_in (sym (first_item x h) ∙ e) ∙ is in
      cc

  no_first : number_in (item_of l 1) ≡ None → AtFault l (begins_at l (item_start l 1))
  no_first against = record {
    which = 1;
    place = places l (item_start l 1);
    begun =
        let few : 0 < 10 ^ 7 = omega arith in
        let w = with_number k 0 few in
        (w.0, w.1, same_one (text_of w.0) l (w.2 ∙ sym letter-is));
    misfits = λ x h same e. let n = second_item x h in clash n.0 (sym against ∙ sym (ap number_in e) ∙ n.1);
  }

  module _ (a : ℕ) (e : number_in (item_of l 1) ≡ Some a) where
    first : (a < 10 ^ 7) × (item_of l 1 ≡ number (decimal a))
    first = number_part (item_of l 1) a e

    begun-two : (x : Line) × Short x × SameItems 2 (text_of x) l
    begun-two =
        let w = with_number k a first.0 in
        (w.0, w.1, same_two (text_of w.0) l (w.2 ∙ sym letter-is) (w.3 ∙ sym first.1))

    no_end : k ≢ kind.Pair → item_of l 2 ≢ break → AtFault l (begins_at l (item_start l 2))
    no_end other against = record {
      which = 2;
      place = places l (item_start l 2);
      begun = begun-two;
      misfits = λ x h same f.
          let of = same_kind x h (same 0 (omega arith)) in
          against (sym f ∙ third_item x h (λ g. other (sym of ∙ g)));
    }

    no_second : k ≡ kind.Pair → number_in (item_of l 2) ≡ None → AtFault l (begins_at l (item_start l 2))
    no_second pair against = record {
      which = 2;
      place = places l (item_start l 2);
      begun = begun-two;
      misfits = λ x h same f.
          let of = same_kind x h (same 0 (omega arith)) in
          let n = (pair_items x h (of ∙ pair)).0 in
          clash n.0 (sym against ∙ sym (ap number_in f) ∙ n.1);
    }

-- a pair line that does not end behind its second number
no_pair_end : (l : List ℕ) (a b : ℕ) → kind_in (item_of l 0) ≡ Some kind.Pair → number_in (item_of l 1) ≡ Some a
    → number_in (item_of l 2) ≡ Some b → item_of l 3 ≢ break → AtFault l (begins_at l (item_start l 3))
no_pair_end l a b is e f against = record {
  which = 3;
  place = places l (item_start l 3);
  begun =
      let n = number_part (item_of l 1) a e in
      let m = number_part (item_of l 2) b f in
      let d = double a b n.0 m.0 in (
        Pair a b,
        (n.0, m.0),
        same_three (text_of (Pair a b)) l (d.0 ∙ sym (letter-is l kind.Pair is)) (d.1 ∙ sym n.1) (d.2 ∙ sym m.1),
      );
  misfits = λ x h same g.
      let of = same_kind l kind.Pair is x h (same 0 (omega arith)) in
      against (sym g ∙ (pair_items x h of).1);
}

-- ---- one place alone is at fault

-- an item before one at fault is not at fault itself
not_before : (l : List ℕ) (p q : ℕ) (a : AtFault l p) (b : AtFault l q) → a.which < b.which → ⊥
not_before l p q a b less =
    a.misfits b.begun.0 b.begun.1 (λ j h. b.begun.2 j (omega arith)) (b.begun.2 a.which less)

place_once : (l : List ℕ) (at p q : ℕ) → ItemPlace l at p → ItemPlace l at q → p ≡ q
place_once l at p q a b = go (eqb (get_or l at 0) 32) refl
  where
    go : (t : Bool) → eqb (get_or l at 0) 32 ≡ t → p ≡ q
    go true f = let e = eqb-true (get_or l at 0) 32 f in a.number e ∙ sym (b.number e)
    go false f =
        let e : get_or l at 0 ≢ 32 = λ g. let against : true ≡ false = sym (eq-eqb (get_or l at 0) 32 g) ∙ f in cc in
        a.other e ∙ sym (b.other e)

once : (l : List ℕ) (p q : ℕ) → AtFault l p → AtFault l q → p ≡ q
once l p q a b = go (ltb a.which b.which) refl (ltb b.which a.which) refl
  where
    go : (s : Bool) → ltb a.which b.which ≡ s → (t : Bool) → ltb b.which a.which ≡ t → p ≡ q
    go true f t g = absurd (not_before l p q a b (ltb-true a.which b.which f))
    go false f true g = absurd (not_before l q p b a (ltb-true b.which a.which g))
    go false f false g =
        let x = ltb-false a.which b.which f in
        let y = ltb-false b.which a.which g in
        let same : a.which ≡ b.which = omega arith in
        place_once l (item_start l b.which) p q (subst (λ i. ItemPlace l (item_start l i) p) same a.place) b.place

-- ---- the line

by_first : Kind → List ℕ → ℕ → Option ℕ → Option Line
by_first k l at o = elim o [ None ↦ None | Some a ↦ numbered k a l (part_at l at).1 ]

by_second : ℕ → List ℕ → ℕ → Option ℕ → Option Line
by_second a l at o = elim o [ None ↦ None | Some b ↦ ended (part_at l (part_at l at).1).0 (Pair a b) ]

not_break : (p : Part) (x : Line) → ended p x ≡ None → p ≡ break → ⊥
not_break p x e f = clash x (sym e ∙ ap (λ q. ended q x) f)

module _ (l : List ℕ) where
  behind_first : (k : Kind) (a : ℕ) → kind_in (part_at l 0).0 ≡ Some k → number_in (part_at l (part_at l 0).1).0 ≡ Some a
      → numbered k a l (part_at l (part_at l 0).1).1 ≡ None → AtFault l (misfit (numbers_behind k) l (part_at l (part_at l 0).1).1)
  unfolding misfit by_second
  behind_first kind.Regions a is e against = no_end l kind.Regions is a e (λ f. cc) (not_break _ (Regions a) against)
  behind_first kind.Polygon a is e against = no_end l kind.Polygon is a e (λ f. cc) (not_break _ (Polygon a) against)
  behind_first kind.Cap a is e against = no_end l kind.Cap is a e (λ f. cc) (not_break _ (Cap a) against)
  behind_first kind.Stop a is e against = no_end l kind.Stop is a e (λ f. cc) (not_break _ (Stop a) against)
  behind_first kind.Pair a is e against = go (number_in (part_at l two).0) refl
    where
      two : ℕ
      two = (part_at l (part_at l 0).1).1

      go : (o : Option ℕ) → number_in (part_at l two).0 ≡ o → AtFault l (misfit 1 l two)
      go None f = subst (AtFault l) (sym (misfit_here 0 l two f)) (no_second l kind.Pair is a e refl f)
      go (Some b) f =
          subst (AtFault l) (sym (misfit_on 0 l two b f))
          (no_pair_end l a b is e f (not_break _ (Pair a b) (sym (ap (by_second a l two) f) ∙ against)))

  behind_letter : (k : Kind) → kind_in (part_at l 0).0 ≡ Some k → lettered k l (part_at l 0).1 ≡ None
      → AtFault l (misfit (suc (numbers_behind k)) l (part_at l 0).1)
  unfolding by_first
  behind_letter k is against = go (number_in (part_at l one').0) refl
    where
      one' : ℕ
      one' = (part_at l 0).1

      go : (o : Option ℕ) → number_in (part_at l one').0 ≡ o → AtFault l (misfit (suc (numbers_behind k)) l one')
      go None e = subst (AtFault l) (sym (misfit_here (numbers_behind k) l one' e)) (no_first l k is e)
      go (Some a) e =
          subst (AtFault l) (sym (misfit_on (numbers_behind k) l one' a e))
          (behind_first k a is e (sym (ap (by_first k l one') e) ∙ against))

  unformed : (o : Option Line) (k : Refusal) → well_formed o ≡ Err k → (o ≡ None) × (k ≡ LineForm)
  unformed None k e = (refl, cc)
  unformed (Some x) k e = cc

  malformed : line_of l ≡ Err LineForm → AtFault l (fault_byte l)
  malformed e = go (kind_in (part_at l 0).0) refl
    where
      go : (o : Option Kind) → kind_in (part_at l 0).0 ≡ o → AtFault l (fault_byte l)
      go None f =
          let against : ◌≡◌ {A = Result Line Refusal} (Err FirstByte) (Err LineForm) = sym (line_first l f) ∙ e in
          cc
      go (Some k) f =
          subst (AtFault l) (sym (fault_rest l k f))
          (behind_letter k f (unformed (lettered k l (part_at l 0).1) LineForm (sym (line_rest l k f) ∙ e)).0)

  unknown : line_of l ≡ Err FirstByte → fault_byte l ≡ begins_at l 0
  unknown e = go (kind_in (part_at l 0).0) refl
    where
      go : (o : Option Kind) → kind_in (part_at l 0).0 ≡ o → fault_byte l ≡ begins_at l 0
      go None f = fault_first l f
      go (Some k) f =
          let is = (unformed (lettered k l (part_at l 0).1) FirstByte (sym (line_rest l k f) ∙ e)).1 in
          cc

  module _ (n : ℕ) where
    good : (x : Placed Line) → line_read l n ≡ Ok x → x.place ≡ spot n 0
    good x e = go (line_of l) refl
      where
        go : (r : Result Line Refusal) → line_of l ≡ r → x.place ≡ spot n 0
        go (Ok y) f =
            let is : ◌≡◌ {A = Result (Placed Line) (Placed Refusal)} (Ok (record { value = y; place = spot n 0 })) (Ok x) = sym (read_good l n y f) ∙ e in
            let same : record { value = y; place = spot n 0 } ≡ x = cc in
            ap (λ (p : Placed Line). p.place) (sym same)
        go (Err k) f =
            let against : ◌≡◌ {A = Result (Placed Line) (Placed Refusal)} (Err (record { value = k; place = spot n (fault_byte l) })) (Ok x) = sym (read_bad l n k f) ∙ e in
            cc

    bad : (x : Placed Refusal) → line_read l n ≡ Err x
        → (k : Refusal) × (line_of l ≡ Err k) × (x ≡ record { value = k; place = spot n (fault_byte l) })
    bad x e = go (line_of l) refl
      where
        go : (r : Result Line Refusal) → line_of l ≡ r
            → (k : Refusal) × (line_of l ≡ Err k) × (x ≡ record { value = k; place = spot n (fault_byte l) })
        go (Ok y) f =
            let against : ◌≡◌ {A = Result (Placed Line) (Placed Refusal)} (Ok (record { value = y; place = spot n 0 })) (Err x) = sym (read_good l n y f) ∙ e in
            cc
        go (Err k) f =
            let is : ◌≡◌ {A = Result (Placed Line) (Placed Refusal)} (Err (record { value = k; place = spot n (fault_byte l) })) (Err x) = sym (read_bad l n k f) ∙ e in
            (k, f, cc)

    pub located : Located l n (line_read l n)
    located = record {
      letter = good;
      line = λ x e. ap (λ (p : Placed Refusal). p.place.line) (bad x e).2;
      first = λ x e is.
          let b = bad x e in
          let same : b.0 ≡ FirstByte = sym (ap (λ (p : Placed Refusal). p.value) b.2) ∙ is in
          subst (ItemPlace l 0) (sym (ap (λ (p : Placed Refusal). p.place.at) b.2 ∙ unknown (b.1 ∙ ap Err same))) (places l 0);
      rest = λ x e is.
          let b = bad x e in
          let same : b.0 ≡ LineForm = sym (ap (λ (p : Placed Refusal). p.value) b.2) ∙ is in
          let here = subst (AtFault l) (sym (ap (λ (p : Placed Refusal). p.place.at) b.2)) (malformed (b.1 ∙ ap Err same)) in
          λ p. (λ a. once l p x.place.at a here, λ f. subst (AtFault l) (sym f) here);
    }

pub by_hand : (l : List ℕ) (n : ℕ) → ByHand l n (line_read l n)
unfolding line_read line_of part_at fault_byte misfit begins_at
by_hand l n = record {
  leading_zero = λ e. ap (λ m. line_read m n) e;
  eight_digits = λ e. ap (λ m. line_read m n) e;
  no_space = λ e. ap (λ m. line_read m n) e;
  two_spaces = λ e. ap (λ m. line_read m n) e;
  letter_behind = λ e. ap (λ m. line_read m n) e;
  space_behind = λ e. ap (λ m. line_read m n) e;
  one_number = λ e. ap (λ m. line_read m n) e;
  space_first = λ e. ap (λ m. line_read m n) e;
  empty = λ e. ap (λ m. line_read m n) e;
}
