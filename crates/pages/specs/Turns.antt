-- Pages of lines.
use Rattle.std.specs.Prelude.{◌≡◌, ℕ, ◌<◌, Bool, List, [], ◌∷◌, ◌++◌, length, take, drop, Ok, Err, Result, nat_le}
use Rattle.std.specs.List.{concat}
use Rattle.std.specs.declared.alloc.AllocError.{AllocError}

-- k of the lines left are appended: the bytes then, and the lines left then.
abbrev pub turned : ℕ → List ℕ → List (List ℕ) → List ℕ × List (List ℕ)
turned k bytes left = (bytes ++ concat (take k left), drop k left)

-- One line, or none if there is no memory for it.
abbrev pub after_line : Result (Unit {0}) AllocError → List ℕ → List (List ℕ) → List ℕ × List (List ℕ)
after_line (Ok u) bytes left = turned 1 bytes left
after_line (Err e) bytes left = (bytes, left)

-- At most so many lines appended, and whether the listing is done then.
abbrev pub Filled : ℕ → List ℕ → List (List ℕ) → Result (Unit {0}) AllocError → List ℕ × List (List ℕ) → Bool → Type 0
Filled limit bytes left (Ok u) after done = (done ≡ nat_le (length left) limit) × (after ≡ turned limit bytes left)
Filled limit bytes left (Err e) after done = (k : ℕ) × (k < limit) × (k < length left) × (after ≡ turned k bytes left)

-- A page of at most so many lines says whether no line is left. Where memory gives out it stops
-- after fewer lines, whole ones, and not behind the last.
abbrev pub Paged : ℕ → List ℕ → List (List ℕ) → Result Bool AllocError → List ℕ × List (List ℕ) → Type 0
Paged limit bytes left (Ok done) after = (done ≡ nat_le (length left) limit) × (after ≡ turned limit bytes left)
Paged limit bytes left (Err e) after = (k : ℕ) × (k < limit) × (k < length left) × (after ≡ turned k bytes left)

-- Pages with these limits, one after another: their bytes, and the lines left.
unfoldable pub pages : List ℕ → List (List ℕ) → List ℕ × List (List ℕ)
pages [] left = ([], left)
pages (k ∷ ks) left = (concat (take k left) ++ (pages ks (drop k left)).0, (pages ks (drop k left)).1)

-- Whatever the limits, pages until no line is left are all the lines, each once and in order.
abbrev pub PagesJoin : List (List ℕ) → Type 0
PagesJoin lines = (limits : List ℕ) → (pages limits lines).1 ≡ [] → (pages limits lines).0 ≡ concat lines

-- All lines at once. Where memory gives out, some of them from the first on, and not all.
abbrev pub Listed : List ℕ → List (List ℕ) → Result (Unit {0}) AllocError → List ℕ → Type 0
Listed bytes lines (Ok u) after = after ≡ bytes ++ concat lines
Listed bytes lines (Err e) after = (k : ℕ) × (k < length lines) × (after ≡ bytes ++ concat (take k lines))
