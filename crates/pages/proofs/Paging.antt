-- The turns of a page.
use Rattle.std.proofs.Common.{◌≡◌, ℕ, zero, suc, ◌+◌, ◌<◌, ◌≤◌, Bool, true, false, leb, ◌⊎◌, List, [], ◌∷◌, ◌++◌, length, take, drop, is_err, Ok, Err, vec_items, vec_len, vec_capacity, Result, Vec, sym, ap, ◌∙◌, inl, inr, arith, length-append, length-drop}
use Rattle.std.proofs.lemmas.Bool.Decides.{nat_tests}
use Rattle.std.specs.List.{concat}
use Rattle.std.specs.declared.alloc.AllocError.{AllocError}
use Rattle.std.specs.declared.alloc.Global.{Global}
use Rattle.oracle.specs.Setup.{Setup}
use Rattle.oracle.specs.declared.walking.Walking.{Ghosts}
use Rattle.engine.specs.View.{View}
use Rattle.pages.proofs.Turned.{turned_all}
use Rattle.pages.specs.Left.{left}
use Rattle.pages.specs.Lines.{left_at}
use Rattle.pages.specs.Turns.{turned, Filled}
use Rattle.pages.specs.declared.pager.Pager.{Pager}

-- behind so many lines of a page
pub record Paging (O : Type 0) (W : Ghosts O) (from now : Pager O) (before out : Vec ℕ Global) (lines limit : ℕ) : Type 0 where
  pub setup_same : W.setup now.census.oracle ≡ W.setup from.census.oracle
  pub within : lines ≤ limit
  pub capacity : vec_capacity before ≤ vec_capacity out
  pub turned_so_far : (vec_items out, left W.setup now) ≡ turned lines (vec_items before) (left W.setup from)

-- a listing has a line left exactly if it is not done
some_left : (xs : List (List ℕ)) (l : List ℕ) → 1 ≤ length (xs ++ (l ∷ []))
some_left [] l = omega arith
some_left (x ∷ xs) l = omega arith

module _ (s : Setup) (v : View) (most printed : ℕ) where
  done-is : (done : Bool) (n : ℕ) (lines : List (List ℕ)) → left_at s v most printed done ≡ drop n lines → done ≡ leb (length lines) n
  done-is true n lines e =
      let h = length-drop n lines in
      let z = ap length e in
      let le : length lines ≤ n = omega arith in
      grind (arith, nat_tests)
  done-is false n lines e =
      let h = length-drop n lines in
      let z = ap length e in
      let some : 1 ≤ length (left_at s v most printed false) = some_left _ _ in
      let lt : n < length lines = omega arith in
      grind (arith, nat_tests)

  -- a listing that is not done has a line left
  pub still_left : (done : Bool) (n : ℕ) (lines : List (List ℕ)) → done ≡ false → left_at s v most printed done ≡ drop n lines → n < length lines
  still_left done n lines undone e = let tells = done-is done n lines e in grind (arith, nat_tests)

  -- a page that is full, or after which no line is left
  pub page_ends : (done : Bool) (n limit : ℕ) (bytes out : List ℕ) (lines : List (List ℕ)) → n ≤ limit → (limit ≤ n) ⊎ (done ≡ true) → (out, left_at s v most printed done) ≡ turned n bytes lines → (done ≡ leb (length lines) limit) × ((out, left_at s v most printed done) ≡ turned limit bytes lines)
  page_ends done n limit bytes out lines le ends e =
      let full : (out, left_at s v most printed done) ≡ turned limit bytes lines = e ∙ go ends in
      (done-is done limit lines (ap (λ x. x.1) full), full)
    where
      go : (limit ≤ n) ⊎ (done ≡ true) → turned n bytes lines ≡ turned limit bytes lines
      go (inl ge) = let same : n ≡ limit = omega arith in ap (λ k. turned k bytes lines) same
      go (inr d) =
          turned_all n limit bytes lines (sym (ap (λ x. x.1) e) ∙ ap (left_at s v most printed) d) le

-- a page that stopped for want of memory
pub filled_short : (r : Result (Unit {0}) AllocError) (k limit : ℕ) (bytes : List ℕ) (lines : List (List ℕ)) (after : List ℕ × List (List ℕ)) (done : Bool) → is_err r ≡ true → k < limit → k < length lines → after ≡ turned k bytes lines → Filled limit bytes lines r after done
filled_short (Ok u) k limit bytes lines after done e lt some h = let z : ◌≡◌ {A = ℕ} 0 1 = cc in absurd (omega arith)
filled_short (Err x) k limit bytes lines after done e lt some h = (k, lt, some, h)

-- fewer lines have fewer bytes
joined_upto : (k n : ℕ) (lines : List (List ℕ)) → k ≤ n → length (concat (take k lines)) ≤ length (concat (take n lines))
joined_upto zero n lines le = omega arith
joined_upto (suc k) zero lines le = absurd (omega arith)
joined_upto (suc k) (suc n) [] le = omega arith
joined_upto (suc k) (suc n) (x ∷ lines) le =
    let h = joined_upto k n lines (omega arith) in
    omega (arith, length-append x (concat (take k lines)), length-append x (concat (take n lines)))

-- with room for a page there is room for each of its lines
pub room_left : (k limit room : ℕ) (before out : Vec ℕ Global) (lines rest : List (List ℕ)) → k < limit → vec_capacity before ≤ vec_capacity out → (vec_items out, rest) ≡ turned k (vec_items before) lines → vec_len before + (length (concat (take limit lines)) + room) ≤ vec_capacity before → vec_len out + room ≤ vec_capacity out
room_left k limit room before out lines rest lt cap e enough =
    let fewer = joined_upto k limit lines (omega arith) in
    let len = ap (λ x. length x.0) e in
    let sum = length-append (vec_items before) (concat (take k lines)) in
    omega (arith, before.ok.0, out.ok.0)
