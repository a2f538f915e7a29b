-- The test for triangulations.
use Rattle.std.specs.Prelude.{ℕ, Bool, true, false, not, ◌==◌, nat_eq}
use Rattle.pairs.specs.Pairs.{pair_count, corners_of}
use Rattle.triangulations.specs.Polygon.{is_diagonal, crosses}
use Rattle.triangulations.specs.Search.{every}
use Rattle.triangulations.specs.Textbook.{PairSet}

-- Whether no member crosses pair e.
unfoldable pub uncrossed : ℕ → PairSet → ℕ → Bool
uncrossed n S e =
    every (pair_count n) (λ f. elim (S f == 1) [ true ↦ not (crosses (corners_of e) (corners_of f)) | false ↦ true ])

-- Whether pair e has to be a member: it is a diagonal that no member crosses.
unfoldable pub belongs : ℕ → PairSet → ℕ → Bool
belongs n S e = elim (is_diagonal n (corners_of e)) [ true ↦ uncrossed n S e | false ↦ false ]

-- Whether pair e is a member exactly if it has to be.
unfoldable pub placed : ℕ → PairSet → ℕ → Bool
placed n S e = elim (belongs n S e) [ true ↦ nat_eq (S e) 1 | false ↦ nat_eq (S e) 0 ]

-- A code has room for 280 pairs, four more than there are.
unfoldable pub is_triangulation : ℕ → PairSet → Bool
is_triangulation n S = every 280 (placed n S)
