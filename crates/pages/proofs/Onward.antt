-- The pages of a whole listing.
use Rattle.std.proofs.Common.{◌≡◌, ℕ, ◌+◌, ◌<◌, ◌≤◌, Bool, true, leb, List, ◌++◌, length, take, drop, is_err, Ok, Err, vec_items, vec_len, vec_capacity, Result, Vec, sym, ap, ◌∙◌, arith, length-append, length-drop, leb-true}
use Rattle.std.proofs.lemmas.List.{take-append-drop}
use Rattle.std.specs.List.{concat}
use Rattle.std.specs.declared.alloc.AllocError.{AllocError}
use Rattle.std.specs.declared.alloc.Global.{Global}
use Rattle.oracle.specs.declared.walking.Walking.{Ghosts}
use Rattle.pages.proofs.Turned.{joined_append, turned_more, turned_whole}
use Rattle.pages.specs.Left.{left}
use Rattle.pages.specs.Turns.{turned, Listed}
use Rattle.pages.specs.declared.pager.Pager.{Pager}

-- behind some of the lines
pub record Listing (O : Type 0) (W : Ghosts O) (from now : Pager O) (before out : Vec ℕ Global) : Type 0 where
  pub setup_same : W.setup now.census.oracle ≡ W.setup from.census.oracle
  pub capacity : vec_capacity before ≤ vec_capacity out
  pub turns : ℕ
  pub turned_so_far : (vec_items out, left W.setup now) ≡ turned turns (vec_items before) (left W.setup from)

-- pages one after another
pub pages_on : (k n : ℕ) (bytes mid out : List ℕ) (lines rest left : List (List ℕ)) → (mid, rest) ≡ turned n bytes lines → (out, left) ≡ turned k mid rest → (out, left) ≡ turned (n + k) bytes lines
pages_on k n bytes mid out lines rest left before e =
    e ∙ ap (λ x. turned k x.0 x.1) before ∙ turned_more k n bytes lines

-- a page that stopped with a line left
pub short_on : (k n : ℕ) (bytes mid : List ℕ) (lines rest : List (List ℕ)) → (mid, rest) ≡ turned n bytes lines → k < length rest → n + k < length lines
short_on k n bytes mid lines rest before some =
    let h = ap (λ x. length x.1) before in
    let d = length-drop n lines in
    omega arith

-- the page after which no line is left
pub pages_end : (done : Bool) (k n : ℕ) (bytes mid out : List ℕ) (lines rest left : List (List ℕ)) → (mid, rest) ≡ turned n bytes lines → done ≡ leb (length rest) k → done ≡ true → (out, left) ≡ turned k mid rest → out ≡ bytes ++ concat lines
pages_end done k n bytes mid out lines rest left before tells ends e =
    let le : length rest ≤ k = leb-true (length rest) k (sym tells ∙ ends) in
    let h = ap (λ x. length x.1) before in
    let d = length-drop n lines in
    turned_whole (n + k) bytes out left lines (omega arith) (pages_on k n bytes mid out lines rest left before e)

pub stopped_short : (r : Result (Unit {0}) AllocError) (k : ℕ) (bytes out : List ℕ) (lines : List (List ℕ)) → is_err r ≡ true → k < length lines → out ≡ bytes ++ concat (take k lines) → Listed bytes lines r out
stopped_short (Ok u) k bytes out lines e some h = let z : ◌≡◌ {A = ℕ} 0 1 = cc in absurd (omega arith)
stopped_short (Err x) k bytes out lines e some h = (k, some, h)

split_bytes : (n : ℕ) (lines : List (List ℕ)) → length (concat lines) ≡ length (concat (take n lines)) + length (concat (drop n lines))
split_bytes n lines =
    ap (λ t. length (concat t)) (sym (take-append-drop n lines))
    ∙ ap length (joined_append (take n lines) (drop n lines))
    ∙ length-append (concat (take n lines)) (concat (drop n lines))

-- with room for all lines there is room for each page
pub room_onward : (k n room : ℕ) (before out : Vec ℕ Global) (lines rest : List (List ℕ)) → vec_capacity before ≤ vec_capacity out → (vec_items out, rest) ≡ turned n (vec_items before) lines → vec_len before + (length (concat lines) + room) ≤ vec_capacity before → vec_len out + (length (concat (take k rest)) + room) ≤ vec_capacity out
room_onward k n room before out lines rest cap e enough =
    let len = ap (λ x. length x.0) e in
    let sum = length-append (vec_items before) (concat (take n lines)) in
    let gone = split_bytes n lines in
    let more = split_bytes k (drop n lines) in
    let same = ap (λ x. length (concat (take k x.1))) e in
    omega (arith, before.ok.0, out.ok.0)
