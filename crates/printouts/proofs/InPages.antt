-- Pages that are written one after another.
use Rattle.std.proofs.Common.{◌≡◌, ℕ, ◌<◌, ◌≤◌, Bool, true, false, is_err, arith, length-drop, leb, List, [], ◌++◌, length, take, drop, IfSome, Some, None, Ok, Err, Option, Result, sym, ap, ◌∙◌, subst, append-nil, append_assoc, take-append-drop, leb-true, drop_of_length-le}
use Rattle.std.proofs.KnownBytes.{Appends-trans}
use Rattle.std.specs.Io.KnownBytes.{Appends}
use Rattle.std.proofs.lemmas.Bool.Decides.{nat_tests}
use Rattle.std.specs.List.{concat}
use Rattle.lines.proofs.Fronts.{none_written, written_on, written_within}
use Rattle.lines.specs.Written.{Written, WrittenFront}
use Rattle.pages.proofs.Turned.{joined_append}
use Rattle.pages.specs.Turns.{turned}

-- The lines that are no longer left are written, and the page is empty.
pub record Printing (old now : Option (List ℕ)) (all left : List (List ℕ)) (page : List ℕ) : Type 0 where
  pub front : List ℕ
  pub split : concat all ≡ front ++ concat left
  pub gone : Appends old now front
  pub fresh : page ≡ []

-- a page is the next of the bytes
page_bytes : (k : ℕ) (before page : List ℕ) (left rest : List (List ℕ)) → before ≡ [] → (page, rest) ≡ turned k before left → concat left ≡ page ++ concat rest
page_bytes k before page left rest fresh e =
    ap concat (sym (take-append-drop k left))
    ∙ joined_append (take k left) (drop k left)
    ∙ ap (λ t. t ++ concat (drop k left)) (sym (ap (λ x. x.0) e ∙ ap (λ t. t ++ concat (take k left)) fresh))
    ∙ ap (λ t. page ++ concat t) (sym (ap (λ x. x.1) e))

module _ (old now new : Option (List ℕ)) (all left rest : List (List ℕ)) (k : ℕ) (before page : List ℕ) (so_far : Printing old now all left before) (e : (page, rest) ≡ turned k before left) where
  page_split : concat all ≡ (so_far.front ++ page) ++ concat rest
  page_split =
      so_far.split
      ∙ ap (λ t. so_far.front ++ t) (page_bytes k before page left rest so_far.fresh e)
      ∙ sym (append_assoc so_far.front page (concat rest))

  -- behind a page that is not written whole
  pub page_stopped : WrittenFront now new page → WrittenFront old new (concat all)
  page_stopped part =
      written_on old now new (concat all) so_far.front (concat left) so_far.split so_far.gone
      (written_within now new (concat left) page (concat rest) (page_bytes k before page left rest so_far.fresh e) part)

  -- behind a page that is
  pub page_written : (after : List ℕ) → Appends now new page → after ≡ [] → Printing old new all rest after
  page_written after more empty = record {
    front = so_far.front ++ page;
    split = page_split;
    gone = Appends-trans old now new so_far.front page so_far.gone more;
    fresh = empty;
  }

  -- behind the last page
  pub page_last : {E : Type 0} → (r : Result (Unit {0}) E) (done : Bool) → done ≡ leb (length left) k → done ≡ true → Written now new r page → Written old new r (concat all)
  page_last (Err x) done tells ends part = page_stopped part
  page_last (Ok u) done tells ends more =
      let le : length left ≤ k = leb-true (length left) k (sym tells ∙ ends) in
      let none : rest ≡ [] = ap (λ x. x.1) e ∙ drop_of_length-le left {i = k} le in
      let whole : concat all ≡ so_far.front ++ page =
      page_split ∙ ap (λ t. (so_far.front ++ page) ++ concat t) none ∙ append-nil (so_far.front ++ page) in
      subst (Appends old new) (sym whole) (Appends-trans old now new so_far.front page so_far.gone more)

-- before a page
pub stopped_before : (old now : Option (List ℕ)) (all left : List (List ℕ)) (before : List ℕ) → Printing old now all left before → WrittenFront old now (concat all)
stopped_before old now all left before so_far = (so_far.front, concat left, so_far.split, so_far.gone)

-- a page that is not the last leaves fewer lines
pub fewer_left : (k : ℕ) (done : Bool) (before page : List ℕ) (left rest : List (List ℕ)) → done ≡ leb (length left) k → done ≡ false → 1 ≤ k → (page, rest) ≡ turned k before left → length rest < length left
fewer_left k done before page left rest tells undone some e =
    let test : leb (length left) k ≡ false = sym tells ∙ undone in
    let more : k < length left = grind (arith, nat_tests) in
    let h = length-drop k left in
    let z = ap length (ap (λ x. x.1) e) in
    omega arith

pub failed : {E : Type 0} → (r : Result (Unit {0}) E) (old new : Option (List ℕ)) (bytes : List ℕ) → is_err r ≡ true → WrittenFront old new bytes → Written old new r bytes
failed (Ok u) old new bytes e h = let z : ◌≡◌ {A = ℕ} 0 1 = cc in absurd (omega arith)
failed (Err x) old new bytes e h = h

-- where the sheet could not be read, nothing is written
pub failed_first : {E : Type 0} → (known : Option (List ℕ)) (r : Result (Unit {0}) E) (old : Option (List ℕ)) (text : List ℕ → List ℕ) → is_err r ≡ true → IfSome known (λ xs. Written old old r (text xs))
failed_first None r old text e = tt
failed_first (Some xs) r old text e = failed r old old (text xs) e (none_written old (text xs))
