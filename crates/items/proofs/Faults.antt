-- Item after item, the reader's answers come to what the whole line is read as.
use Rattle.std.proofs.Common.{◌≡◌, ℕ, suc, Bool, true, false, eqb, List, [], ◌∷◌, ok_or, Some, None, Ok, Err, Option, Result, sym, refl, ap, ◌∙◌}
use Rattle.std.proofs.lemmas.Bool.{cond-false}
use Rattle.refusals.specs.declared.Refusal.{Refusal}
use Rattle.refusals.specs.declared.Refusal.TheVariants.{FirstByte, LineForm}
use Rattle.items.specs.Items.{Part, part_at, begins_at}
use Rattle.items.specs.Lines.{kind_in, number_in, ended, paired, numbered, lettered, well_formed, line_of}
use Rattle.items.specs.Faults.{spot, numbers_behind, misfit, fault_byte, line_read, unplaced}
use Rattle.items.specs.declared.item.Place.{Place}
use Rattle.items.specs.declared.item.Placed.{Placed}
use Rattle.items.specs.declared.line.Kind.{Kind}
use Rattle.items.specs.declared.line.Line.{Line}
use Rattle.items.specs.declared.line.Line.TheVariants.{Pair}
use Rattle.items.proofs.Decimal.{clash}
use Rattle.items.proofs.Texts.{at_space}

no_value : {X : Type 0} (o : Option X) (p q : Place) → Err q ≡ ok_or o p → (o ≡ None) × (q ≡ p)
no_value None p q e = (refl, cc)
no_value (Some x) p q e = cc

a_value : {X : Type 0} (o : Option X) (p : Place) (x : X) → Ok x ≡ ok_or o p → o ≡ Some x
a_value None p x e = cc
a_value (Some y) p x e = cc

-- an answer whose place becomes that of a refusal
abbrev pub refused_as : {X : Type 0} → Refusal → Result X Place → Result X (Placed Refusal)
refused_as k (Ok x) = Ok x
refused_as k (Err p) = Err (record { value = k; place = p })

refused_at : {X : Type 0} (k : Refusal) (r : Result X Place) (f : Placed Refusal) → Err f ≡ refused_as k r
    → (q : Place) × (Err q ≡ r) × (f ≡ record { value = k; place = q })
refused_at {X} k (Ok x) f e = cc
refused_at k (Err q) f e = (q, refl, cc)

gone_on : {X : Type 0} (k : Refusal) (r : Result X Place) (x : X) → Ok x ≡ refused_as k r → Ok x ≡ r
gone_on k (Ok y) x e = cc
gone_on {X} k (Err q) x e = cc

-- ---- the numbers of a line

by_misfit : ℕ → List ℕ → ℕ → Option ℕ → ℕ
by_misfit n l at o = elim o [ None ↦ begins_at l at | Some a ↦ misfit n l (part_at l at).1 ]

pub misfit_here : (n : ℕ) (l : List ℕ) (at : ℕ) → number_in (part_at l at).0 ≡ None → misfit (suc n) l at ≡ begins_at l at
unfolding misfit by_misfit
misfit_here n l at e = ap (by_misfit n l at) e

pub misfit_on : (n : ℕ) (l : List ℕ) (at a : ℕ) → number_in (part_at l at).0 ≡ Some a → misfit (suc n) l at ≡ misfit n l (part_at l at).1
unfolding misfit by_misfit
misfit_on n l at a e = ap (by_misfit n l at) e

by_second : ℕ → List ℕ → ℕ → Option ℕ → Option Line
by_second a l at o = elim o [ None ↦ None | Some b ↦ ended (part_at l (part_at l at).1).0 (Pair a b) ]

by_first : Kind → List ℕ → ℕ → Option ℕ → Option Line
by_first k l at o = elim o [ None ↦ None | Some a ↦ numbered k a l (part_at l at).1 ]

-- what an item that is no number comes to, and what is read on behind a number
module _ (n : ℕ) (l : List ℕ) (at : ℕ) where
  abbrev Number : Result ℕ Place → Type 0
  Number r = r ≡ ok_or (number_in (part_at l at).0) (spot n (begins_at l at))

  pub second_misfit : (a : ℕ) (q : Place) → Number (Err q) → Err q ≡ ok_or (paired a l at) (spot n (misfit 1 l at))
  unfolding by_second
  second_misfit a q e =
      let f = no_value (number_in (part_at l at).0) _ q e in
      ap Err (f.1 ∙ ap (spot n) (sym (misfit_here 0 l at f.0)))
      ∙ ap (λ o. ok_or o (spot n (misfit 1 l at))) (sym (ap (by_second a l at) f.0))

  pub second_read : (a b : ℕ) → Number (Ok b)
      → ok_or (ended (part_at l (part_at l at).1).0 (Pair a b)) (spot n (begins_at l (part_at l at).1))
      ≡ ok_or (paired a l at) (spot n (misfit 1 l at))
  unfolding by_second misfit
  second_read a b e =
      let f = a_value (number_in (part_at l at).0) _ b e in
      ap (λ m. ok_or (ended (part_at l (part_at l at).1).0 (Pair a b)) (spot n m)) (sym (misfit_on 0 l at b f))
      ∙ ap (λ o. ok_or o (spot n (misfit 1 l at))) (sym (ap (by_second a l at) f))

  pub first_misfit : (k : Kind) (q : Place) → Number (Err q)
      → Err q ≡ ok_or (lettered k l at) (spot n (misfit (suc (numbers_behind k)) l at))
  unfolding by_first
  first_misfit k q e =
      let f = no_value (number_in (part_at l at).0) _ q e in
      ap Err (f.1 ∙ ap (spot n) (sym (misfit_here (numbers_behind k) l at f.0)))
      ∙ ap (λ o. ok_or o (spot n (misfit (suc (numbers_behind k)) l at))) (sym (ap (by_first k l at) f.0))

  pub first_read : (k : Kind) (a : ℕ) → Number (Ok a)
      → ok_or (numbered k a l (part_at l at).1) (spot n (misfit (numbers_behind k) l (part_at l at).1))
      ≡ ok_or (lettered k l at) (spot n (misfit (suc (numbers_behind k)) l at))
  unfolding by_first
  first_read k a e =
      let f = a_value (number_in (part_at l at).0) _ a e in
      ap (λ m. ok_or (numbered k a l (part_at l at).1) (spot n m)) (sym (misfit_on (numbers_behind k) l at a f))
      ∙ ap (λ o. ok_or o (spot n (misfit (suc (numbers_behind k)) l at))) (sym (ap (by_first k l at) f))

-- ---- the whole line

by_value : List ℕ → ℕ → Result Line Refusal → Result (Placed Line) (Placed Refusal)
by_value l n r =
    elim r [
      | Ok x ↦ Ok (record { value = x; place = spot n 0 })
      | Err k ↦ Err (record { value = k; place = spot n (fault_byte l) })
    ]

by_letter : List ℕ → Option Kind → Result Line Refusal
by_letter l o = elim o [ None ↦ Err FirstByte | Some k ↦ well_formed (lettered k l (part_at l 0).1) ]

by_fault : List ℕ → Option Kind → ℕ
by_fault l o = elim o [ None ↦ begins_at l 0 | Some k ↦ misfit (suc (numbers_behind k)) l (part_at l 0).1 ]

-- the letter is the first byte
letter_begins : (l : List ℕ) (k : Kind) → kind_in (part_at l 0).0 ≡ Some k → begins_at l 0 ≡ 0
unfolding begins_at
letter_begins [] k e = refl
letter_begins (b ∷ bs) k e = go (eqb b 32) refl
  where
    go : (t : Bool) → eqb b 32 ≡ t → begins_at (b ∷ bs) 0 ≡ 0
    go true f = clash k (sym (ap (λ (r : Part × ℕ). kind_in r.0) (at_space (b ∷ bs) bs 0 b refl f)) ∙ e)
    go false f = cond-false {A = ℕ} (eqb b 32) 1 0 f

module _ (l : List ℕ) where
  pub fault_first : kind_in (part_at l 0).0 ≡ None → fault_byte l ≡ begins_at l 0
  unfolding fault_byte by_fault
  fault_first e = ap (by_fault l) e

  pub fault_rest : (k : Kind) → kind_in (part_at l 0).0 ≡ Some k
      → fault_byte l ≡ misfit (suc (numbers_behind k)) l (part_at l 0).1
  unfolding fault_byte by_fault
  fault_rest k e = ap (by_fault l) e

  pub line_first : kind_in (part_at l 0).0 ≡ None → line_of l ≡ Err FirstByte
  unfolding line_of by_letter
  line_first e = ap (by_letter l) e

  pub line_rest : (k : Kind) → kind_in (part_at l 0).0 ≡ Some k → line_of l ≡ well_formed (lettered k l (part_at l 0).1)
  unfolding line_of by_letter
  line_rest k e = ap (by_letter l) e

module _ (n : ℕ) (l : List ℕ) where
  abbrev Letter : Result Kind (Placed Refusal) → Type 0
  Letter r = r ≡ refused_as FirstByte (ok_or (kind_in (part_at l 0).0) (spot n (begins_at l 0)))

  abbrev Rest : Kind → Result Line (Placed Refusal) → Type 0
  Rest k r =
      r
      ≡ refused_as LineForm
      (ok_or (lettered k l (part_at l 0).1) (spot n (misfit (suc (numbers_behind k)) l (part_at l 0).1)))

  letter-is : (k : Kind) → Letter (Ok k) → kind_in (part_at l 0).0 ≡ Some k
  letter-is k e = a_value (kind_in (part_at l 0).0) _ k (gone_on FirstByte _ k e)

  pub letter_misfit : (f : Placed Refusal) → Letter (Err f) → Err f ≡ line_read l n
  unfolding line_read by_value
  letter_misfit f e =
      let r = refused_at FirstByte _ f e in
      let g = no_value (kind_in (part_at l 0).0) _ r.0 r.1 in
      ap Err r.2
      ∙ ap (λ p. Err (record { value = FirstByte; place = p })) (g.1 ∙ ap (spot n) (sym (fault_first l g.0)))
      ∙ ap (by_value l n) (sym (line_first l g.0))

  pub rest_misfit : (k : Kind) (f : Placed Refusal) → Letter (Ok k) → Rest k (Err f) → Err f ≡ line_read l n
  unfolding line_read by_value
  rest_misfit k f e h =
      let is = letter-is k e in
      let r = refused_at LineForm _ f h in
      let g = no_value (lettered k l (part_at l 0).1) _ r.0 r.1 in
      ap Err r.2
      ∙ ap (λ p. Err (record { value = LineForm; place = p })) (g.1 ∙ ap (spot n) (sym (fault_rest l k is)))
      ∙ ap (by_value l n) (sym (line_rest l k is ∙ ap well_formed g.0))

  pub rest_read : (k : Kind) (x : Line) (p : Place) → Letter (Ok k) → Rest k (Ok x) → p ≡ spot n (begins_at l 0)
      → Ok (record { value = x; place = p }) ≡ line_read l n
  unfolding line_read by_value
  rest_read k x p e h at =
      let is = letter-is k e in
      let g = a_value (lettered k l (part_at l 0).1) _ x (gone_on LineForm _ x h) in
      ap (λ q. Ok (record { value = x; place = q })) (at ∙ ap (spot n) (letter_begins l k is))
      ∙ ap (by_value l n) (sym (line_rest l k is ∙ ap well_formed g))

pub read_good : (l : List ℕ) (n : ℕ) (x : Line) → line_of l ≡ Ok x → line_read l n ≡ Ok (record { value = x; place = spot n 0 })
unfolding line_read by_value
read_good l n x e = ap (by_value l n) e

pub read_bad : (l : List ℕ) (n : ℕ) (k : Refusal) → line_of l ≡ Err k
    → line_read l n ≡ Err (record { value = k; place = spot n (fault_byte l) })
unfolding line_read by_value
read_bad l n k e = ap (by_value l n) e

pub unplaced_read : (l : List ℕ) (n : ℕ) → unplaced (line_read l n) ≡ line_of l
unfolding line_read by_value
unplaced_read l n = go (line_of l)
  where
    go : (r : Result Line Refusal) → unplaced (by_value l n r) ≡ r
    go (Ok x) = refl
    go (Err k) = refl
