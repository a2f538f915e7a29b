-- One line of a listing: what it leaves.
use Rattle.std.proofs.Common.{◌≡◌, ℕ, ◌+◌, ◌<◌, ◌≤◌, Bool, true, false, cond, not, ltb, List, [], ◌∷◌, ◌++◌, is_some, Some, None, Option, Result, sym, refl, ap, ◌∙◌, ap₂, arith, ltb-true}
use Rattle.std.proofs.lemmas.List.{append-nil}
use Rattle.refusals.specs.declared.Refusal.{Refusal}
use Rattle.oracle.specs.Outcomes.{ceiling}
use Rattle.oracle.specs.Places.{at}
use Rattle.oracle.specs.Setup.{Code, Setup}
use Rattle.oracle.specs.Walk.{Spot, on, past}
use Rattle.engine.specs.Places.{rank_at}
use Rattle.engine.specs.Plain.{plain_next}
use Rattle.engine.specs.View.{View}
use Rattle.engine.specs.declared.tally.Tally.{Tally}
use Rattle.lines.specs.Texts.{last_text}
use Rattle.pages.proofs.Places.{object_left, last_left}
use Rattle.pages.specs.Due.{due_rank}
use Rattle.pages.specs.Lines.{line_of, left_at}
use Rattle.pages.specs.Turns.{turned}

-- a first line appended
turned_one : (bytes : List ℕ) (line : List ℕ) (more left : List (List ℕ)) → left ≡ line ∷ more → (bytes ++ line, more) ≡ turned 1 bytes left
turned_one bytes line more left e =
    ap (λ t. (bytes ++ t, more)) (sym (append-nil line)) ∙ sym (ap (turned 1 bytes) e)

-- an object is due only where one stands, and fewer are printed than may be
pub record Due (s : Setup) (v : View) (most printed rank : ℕ) : Type 0 where
  pub fewer : printed < most
  pub object : Code
  pub stands : at s v.stand.place ≡ on object

pub is_due : (s : Setup) (v : View) (most printed rank : ℕ) → due_rank s v most printed ≡ Some rank → Due s v most printed rank
is_due s v most printed rank e = go (ltb printed most) refl (at s v.stand.place) refl e
  where
    go : (b : Bool) → ltb printed most ≡ b → (spot : Spot) → at s v.stand.place ≡ spot → cond (ltb printed most) (rank_at s spot) None ≡ Some rank → Due s v most printed rank
    go false h spot here f =
        let k = ap (λ a. cond a (rank_at s spot) None) h in
        let z : ◌≡◌ {A = ℕ} 0 1 = cc in
        absurd (omega arith)
    go true h past here f =
        let k = ap (λ a. cond a (rank_at s past) None) h in
        let z : ◌≡◌ {A = ℕ} 0 1 = cc in
        absurd (omega arith)
    go true h (on w) here f = record { fewer = ltb-true printed most h; object = w; stands = here }

module _ (s : Setup) (v : View) (most printed : ℕ) (bytes out : List ℕ) where
  -- the line of the object at the place, and on to the next
  pub passes : (w : Code) (before now : Setup) (from after : View) (r : Result (Option ℕ) Refusal) (top count : ℕ) (was done : Bool) → at s v.stand.place ≡ on w → printed < most → was ≡ false → before ≡ s → from ≡ v → top ≡ most → count ≡ printed + 1 → done ≡ was → now ≡ before → (r, after) ≡ plain_next before from → out ≡ bytes ++ line_of s w → (out, left_at now after top count done) ≡ turned 1 bytes (left_at s v most printed was)
  passes w before now from after r top count was done here fewer undone setup view limit counts kept same moved wrote =
      ap₂ (λ a b. (a, left_at now after top count b)) wrote (kept ∙ undone)
      ∙ ap₂ (λ n a. (bytes ++ line_of s w, left_at n a top count false)) (same ∙ setup) (ap (λ x. x.1) moved ∙ ap₂ (λ n a. (plain_next n a).1) setup view)
      ∙ ap₂ (λ m k. (bytes ++ line_of s w, left_at s (plain_next s v).1 m k false)) limit counts
      ∙ turned_one bytes (line_of s w) (left_at s (plain_next s v).1 most (printed + 1) false) (left_at s v most printed false) (object_left s v w most printed here fewer)
      ∙ ap (λ b. turned 1 bytes (left_at s v most printed b)) (sym undone)

  -- the last line
  pub finishes : (rank : Option ℕ) (whole done : Bool) (t : Tally) → 1 ≤ v.stand.place → v.tally.steps ≤ ceiling → done ≡ false → due_rank s v most printed ≡ None → rank ≡ rank_at s (at s v.stand.place) → is_some rank ≡ not whole → t ≡ v.tally → out ≡ bytes ++ last_text whole printed t.steps → (out, []) ≡ turned 1 bytes (left_at s v most printed done)
  finishes rank whole done t from small undone due ranked tells counts wrote =
      ap (λ a. (a, [])) wrote
      ∙ ap₂ (λ a u. (bytes ++ last_text a printed u.steps, [])) (other (is_some rank) whole tells ∙ ap (λ q. not (is_some q)) ranked) counts
      ∙ turned_one bytes (last_text (not (is_some (rank_at s (at s v.stand.place)))) printed v.tally.steps) [] (left_at s v most printed false) (last_left s v most printed from small due)
      ∙ ap (λ b. turned 1 bytes (left_at s v most printed b)) (sym undone)
    where
      other : (a b : Bool) → a ≡ not b → b ≡ not a
      other a true e = ap not (sym e)
      other a false e = ap not (sym e)
