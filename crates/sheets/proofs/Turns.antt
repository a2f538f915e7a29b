-- One turn of the reader's loop: what is left of the sheet, read on, gives what the whole sheet gives.
use Rattle.std.proofs.Common.{◌≡◌, ℕ, ◌+◌, ◌-◌, ◌<◌, ◌≤◌, Bool, true, false, cond, ltb, List, ◌∷◌, length, take, drop, Some, None, Ok, Err, Option, Result, sym, refl, ap, ◌∙◌, arith, length-drop, length-take}
use Rattle.std.proofs.lemmas.List.{take_rest}
use Rattle.std.proofs.lemmas.Bool.{ltb-true, ltb-false, cond-true, cond-false}
use Rattle.sheets.specs.Cut.{Cut, cut, line_length}
use Rattle.sheets.specs.Reading.{Wanted, after_bytes, at_end, faulted, read_from}
use Rattle.sheets.specs.Settings.{Settings}
use Rattle.sheets.specs.declared.fault.Fault.{Fault}
use Rattle.sheets.proofs.Cuts.{cut_more, cut_none}
use Rattle.sheets.proofs.Steps.{read_next, read_ended}

abbrev Found : List ℕ → Option ℕ
Found bs = cond (ltb (line_length bs) (length bs)) (Some (line_length bs)) None

found : (bs : List ℕ) (n : ℕ) → Some n ≡ Found bs → (n ≡ line_length bs) × (line_length bs < length bs)
found bs n e = go (ltb (line_length bs) (length bs)) refl
  where
    go : (t : Bool) → ltb (line_length bs) (length bs) ≡ t → (n ≡ line_length bs) × (line_length bs < length bs)
    go true f =
        let same : Some n ≡ Some (line_length bs) = e ∙ cond-true _ (Some (line_length bs)) None f in
        (cc, ltb-true (line_length bs) (length bs) f)
    go false f =
        let same : Some n ≡ None = e ∙ cond-false _ (Some (line_length bs)) None f in
        cc

missing : (bs : List ℕ) → None ≡ Found bs → length bs ≤ line_length bs
missing bs e = go (ltb (line_length bs) (length bs)) refl
  where
    go : (t : Bool) → ltb (line_length bs) (length bs) ≡ t → length bs ≤ line_length bs
    go true f =
        let same : None ≡ Some (line_length bs) = e ∙ cond-true _ (Some (line_length bs)) None f in
        cc
    go false f = ltb-false (line_length bs) (length bs) f

module _ (number : ℕ) (s : Settings) (rest : List ℕ) (all : Result Wanted Fault)
    (so_far : read_from number s (cut rest).lines (cut rest).rest ≡ all) where
  -- the line that the code cuts off and what it leaves
  module _ (n : ℕ) (break : Some n ≡ Found rest) where
    cut-here : cut rest ≡ record { lines = take n rest ∷ (cut (drop (n + 1) rest)).lines; rest = (cut (drop (n + 1) rest)).rest }
    cut-here =
        let f = found rest n break in
        cut_more rest f.1
        ∙ ap (λ m. record { lines = take m rest ∷ (cut (drop (m + 1) rest)).lines; rest = (cut (drop (m + 1) rest)).rest }) (sym f.0)

    whole-line : take (n - 0) rest ≡ take n rest
    whole-line = let same : n - 0 ≡ n = omega arith in ap (λ m. take m rest) same

    here : read_from number s (take n rest ∷ (cut (drop (n + 1) rest)).lines) (cut (drop (n + 1) rest)).rest ≡ all
    here = ap (λ (c : Cut). read_from number s c.lines c.rest) (sym cut-here) ∙ so_far

    pub turn_on : (t : Settings) → Ok t ≡ after_bytes s (take (n - 0) rest) number
        → read_from (number + 1) t (cut (take (length rest - (n + 1)) (drop (n + 1) rest))).lines
        (cut (take (length rest - (n + 1)) (drop (n + 1) rest))).rest ≡ all
    turn_on t e =
        ap (λ r. read_from (number + 1) t (cut r).lines (cut r).rest) (take_rest rest (n + 1))
        ∙ sym (read_next number s (take n rest) (cut (drop (n + 1) rest)).lines (cut (drop (n + 1) rest)).rest t
        (ap (λ l. after_bytes s l number) (sym whole-line) ∙ sym e))
        ∙ here

    pub turn_fault : (f : Fault) → Err f ≡ after_bytes s (take (n - 0) rest) number → Err f ≡ all
    turn_fault f e =
        sym (read_ended number s (take n rest) (cut (drop (n + 1) rest)).lines (cut (drop (n + 1) rest)).rest f
        (ap (λ l. after_bytes s l number) (sym whole-line) ∙ sym e))
        ∙ here

    pub turn_less : 1 + length (take (length rest - (n + 1)) (drop (n + 1) rest)) ≤ length rest
    turn_less = let f = found rest n break in simp (length-take, length-drop) (omega arith)

  pub turn_end : None ≡ Found rest → faulted (at_end s rest) number ≡ all
  unfolding read_from
  turn_end e = ap (λ (c : Cut). read_from number s c.lines c.rest) (sym (cut_none rest (missing rest e))) ∙ so_far
