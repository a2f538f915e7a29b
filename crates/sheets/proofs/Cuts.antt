-- A sheet cut at its first byte 10, and what cutting the lines of a written sheet gives.
use Rattle.std.proofs.Common.{◌≡◌, ℕ, suc, ◌+◌, ◌<◌, ◌≤◌, Bool, true, false, cond, not, eqb, ◌≢◌, List, [], ◌∷◌, ◌++◌, length, take, drop, sym, refl, ap, ◌∙◌, add-one, arith}
use Rattle.std.specs.List.{AllByRecursion}
use Rattle.std.proofs.lemmas.Bool.{ne_eqb}
use Rattle.sheets.specs.Cut.{Cut, cut, in_front, line_length}

by_break : ℕ → List ℕ → Bool → Cut
by_break b bs t =
    elim t [
      | true ↦ record { lines = [] ∷ (cut bs).lines; rest = (cut bs).rest }
      | false ↦ in_front b (cut bs).lines (cut bs).rest
    ]

cut_break : (b : ℕ) (bs : List ℕ) → eqb b 10 ≡ true
    → cut (b ∷ bs) ≡ record { lines = [] ∷ (cut bs).lines; rest = (cut bs).rest }
unfolding cut by_break
cut_break b bs e = ap (by_break b bs) e

cut_byte : (b : ℕ) (bs : List ℕ) → eqb b 10 ≡ false → cut (b ∷ bs) ≡ in_front b (cut bs).lines (cut bs).rest
unfolding cut by_break
cut_byte b bs e = ap (by_break b bs) e

-- a line without byte 10 is cut off at its end
pub cut_line : (l r : List ℕ) → AllByRecursion (λ b. b ≢ 10) l
    → cut (l ++ (10 ∷ r)) ≡ record { lines = l ∷ (cut r).lines; rest = (cut r).rest }
cut_line [] r h = cut_break 10 r refl
cut_line (b ∷ l) r h =
    cut_byte b (l ++ (10 ∷ r)) (ne_eqb b 10 h.0)
    ∙ ap (λ (c : Cut). in_front b c.lines c.rest) (cut_line l r h.1)

-- bytes without byte 10 are no finished line
pub cut_rest : (r : List ℕ) → AllByRecursion (λ b. b ≢ 10) r → cut r ≡ record { lines = []; rest = r }
unfolding cut
cut_rest [] h = refl
cut_rest (b ∷ r) h =
    cut_byte b r (ne_eqb b 10 h.0) ∙ ap (λ (c : Cut). in_front b c.lines c.rest) (cut_rest r h.1)

length_yes : (b : ℕ) (bs : List ℕ) → eqb b 10 ≡ true → line_length (b ∷ bs) ≡ 0
length_yes b bs e = ap (λ t. cond (not t) (1 + line_length bs) 0) e

length_no : (b : ℕ) (bs : List ℕ) → eqb b 10 ≡ false → line_length (b ∷ bs) ≡ 1 + line_length bs
length_no b bs e = ap (λ t. cond (not t) (1 + line_length bs) 0) e

-- a sheet cut at byte n
abbrev cut_at : ℕ → List ℕ → Cut
cut_at n bs = record { lines = take n bs ∷ (cut (drop (suc n) bs)).lines; rest = (cut (drop (suc n) bs)).rest }

cut_first : (bs : List ℕ) → line_length bs < length bs → cut bs ≡ cut_at (line_length bs) bs
cut_first [] h = absurd (omega arith)
cut_first (b ∷ bs) h = go (eqb b 10) refl (cut_first bs)
  where
    go : (t : Bool) → eqb b 10 ≡ t → (line_length bs < length bs → cut bs ≡ cut_at (line_length bs) bs)
        → cut (b ∷ bs) ≡ cut_at (line_length (b ∷ bs)) (b ∷ bs)
    go true e ih = cut_break b bs e ∙ ap (λ n. cut_at n (b ∷ bs)) (sym (length_yes b bs e))
    go false e ih =
        let n = length_no b bs e in
        let same : suc (line_length bs) ≡ line_length (b ∷ bs) = omega arith in
        cut_byte b bs e ∙ ap (λ (c : Cut). in_front b c.lines c.rest) (ih (omega arith))
        ∙ ap (λ m. cut_at m (b ∷ bs)) same

-- what the code cuts off: the bytes before the first byte 10, and those behind it
pub cut_more : (bs : List ℕ) → line_length bs < length bs
    → cut bs
    ≡ record {
      lines = take (line_length bs) bs ∷ (cut (drop (line_length bs + 1) bs)).lines;
      rest = (cut (drop (line_length bs + 1) bs)).rest;
    }
cut_more bs h =
    cut_first bs h
    ∙ ap (λ m. record { lines = take (line_length bs) bs ∷ (cut (drop m bs)).lines; rest = (cut (drop m bs)).rest })
    (sym (add-one (line_length bs)))

pub cut_none : (bs : List ℕ) → length bs ≤ line_length bs → cut bs ≡ record { lines = []; rest = bs }
unfolding cut
cut_none [] h = refl
cut_none (b ∷ bs) h = go (eqb b 10) refl (cut_none bs)
  where
    go : (t : Bool) → eqb b 10 ≡ t → (length bs ≤ line_length bs → cut bs ≡ record { lines = []; rest = bs })
        → cut (b ∷ bs) ≡ record { lines = []; rest = b ∷ bs }
    go true e ih = let n = length_yes b bs e in absurd (omega arith)
    go false e ih =
        let n = length_no b bs e in
        cut_byte b bs e ∙ ap (λ (c : Cut). in_front b c.lines c.rest) (ih (omega arith))
