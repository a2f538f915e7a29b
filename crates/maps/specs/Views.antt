-- What a draft and a map hold, without the facts that their types carry.
use Rattle.std.specs.Prelude.{ℕ, List, Ok, Err, Result}
use Rattle.maps.specs.Touch.{Regions, Touching}
use Rattle.maps.specs.declared.draft.Draft.{Draft}
use Rattle.maps.specs.declared.map.Map.{Map}

abbrev pub mapped_out : Map → Regions
mapped_out m = record { count_of = m.n; rows = m.rows }

abbrev pub drafted : Draft → Regions
drafted d = mapped_out d.map

-- a Result's value seen through a view, its error as it is
abbrev pub through : {X Y E : Type 0} → (X → Y) → Result X E → Result Y E
through f (Ok x) = Ok (f x)
through f (Err e) = Err e

-- in a map that was made of a list of pairs, touching is what the pairs say
abbrev pub Meant : {E : Type 0} → List (ℕ × ℕ) → Result Map E → Type 0
Meant ps (Ok m) = Touching ps m.rows
Meant ps (Err e) = Unit {0}
