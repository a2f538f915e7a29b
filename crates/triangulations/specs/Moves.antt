-- The moves of a census of triangulations, over pairs and the set.
use Rattle.std.specs.Prelude.{ℕ, ◌+◌, min, max, Bool, cond, ◌&&◌, ◌||◌, Some, None, Option, ◌==◌, nat_lt}
use Rattle.digits.specs.Bits.{count}
use Rattle.masks.specs.Pick.{least}
use Rattle.pairs.specs.Pairs.{pair_count, number, corners_of}
use Rattle.triangulations.specs.Polygon.{is_side, is_diagonal}
use Rattle.triangulations.specs.Textbook.{PairSet}

-- 1 if (a, b), with a < b < n, is a side or a member, else 0.
unfoldable pub edge : ℕ → PairSet → ℕ → ℕ → ℕ
edge n S a b = cond (nat_lt a b && nat_lt b n) (cond (is_side n (a, b)) 1 (S (number a b))) 0

-- The same of two corners in either order: at most one order is ascending.
unfoldable pub joined : ℕ → PairSet → ℕ → ℕ → ℕ
joined n S a b = edge n S a b + edge n S b a

-- Whether corner c forms a triangle with a and b: its two edges to them are sides or members.
unfoldable pub triangle : ℕ → PairSet → ℕ × ℕ → ℕ → Bool
triangle n S p c = joined n S p.0 c == 1 && joined n S p.1 c == 1

-- The corners on the two sides of a pair.
unfoldable pub between : ℕ × ℕ → ℕ → Bool
between p c = nat_lt p.0 c && nat_lt c p.1

unfoldable pub beyond : ℕ × ℕ → ℕ → Bool
beyond p c = nat_lt c p.0 || nat_lt p.1 c

-- The corner on each side that forms a triangle with the two corners of a pair.
unfoldable pub inside : ℕ → PairSet → ℕ × ℕ → Option ℕ
inside n S p = least (λ c. between p c && triangle n S p c) n

unfoldable pub outside : ℕ → PairSet → ℕ × ℕ → Option ℕ
outside n S p = least (λ c. beyond p c && triangle n S p c) n

-- The number of the pair between two corners.
unfoldable pub pair_of : Option ℕ → Option ℕ → Option ℕ
pair_of None d = None
pair_of (Some c) None = None
pair_of (Some c) (Some d) = Some (number (min c d) (max c d))

-- The number of the diagonal that replaces pair e.
unfoldable pub replacement : ℕ → PairSet → ℕ → Option ℕ
replacement n S e = pair_of (inside n S (corners_of e)) (outside n S (corners_of e))

-- The set with f in place of e.
unfoldable pub exchanged : PairSet → ℕ → ℕ → PairSet
exchanged S e f x = cond (x == e) 0 (cond (x == f) 1 (S x))

-- Whether pair e = (a, b) is a member with a > 0 for which (0, a) and (0, b) are each a side or a member.
unfoldable pub leads_home : ℕ → PairSet → ℕ → Bool
leads_home n S e =
    (S e == 1)
    && (nat_lt 0 (corners_of e).0 && (joined n S 0 (corners_of e).0 == 1 && joined n S 0 (corners_of e).1 == 1))

-- The home slot: the smallest such e.
unfoldable pub home_slot : ℕ → PairSet → Option ℕ
home_slot n S = least (leads_home n S) (pair_count n)

-- The number of members that do not end at corner 0.
unfoldable pub off_corner : PairSet → ℕ → ℕ
off_corner S e = cond ((corners_of e).0 == 0) 0 (S e)

unfoldable pub rank_of : ℕ → PairSet → ℕ
rank_of n S = count (pair_count n) (off_corner S)

-- Every diagonal at corner 0.
unfoldable pub fan : ℕ → PairSet
fan n e = cond (is_diagonal n (corners_of e) && (corners_of e).0 == 0) 1 0
