-- A convex polygon with n corners, numbered round from 0: its sides and diagonals, as pairs (a, b) of
-- corners with a < b.
use Rattle.std.specs.Prelude.{◌≡◌, ℕ, ◌+◌, ◌-◌, ◌<◌, Bool, not, ◌&&◌, ◌||◌, ◌⊎◌, ◌==◌, nat_lt}

-- Sides are the pairs with b = a + 1 and the pair (0, n - 1); the others are diagonals.
abbrev pub Side : ℕ → ℕ × ℕ → Type 0
Side n p = (p.1 ≡ p.0 + 1) ⊎ ((p.0 ≡ 0) × (p.1 ≡ n - 1))

abbrev pub Diagonal : ℕ → ℕ × ℕ → Type 0
Diagonal n p = (p.0 < p.1) × (p.1 < n) × (Side n p → ⊥)

-- (a, b) and (c, d) cross if a < c < b < d or c < a < d < b.
abbrev pub Cross : ℕ × ℕ → ℕ × ℕ → Type 0
Cross p q =
    ((p.0 < q.0) × (q.0 < p.1) × (p.1 < q.1)) ⊎ ((q.0 < p.0) × (p.0 < q.1) × (q.1 < p.1))

-- The same, as tests.
unfoldable pub is_side : ℕ → ℕ × ℕ → Bool
is_side n p = p.1 == p.0 + 1 || (p.0 == 0 && p.1 == n - 1)

unfoldable pub is_diagonal : ℕ → ℕ × ℕ → Bool
is_diagonal n p = nat_lt p.0 p.1 && (nat_lt p.1 n && not (is_side n p))

unfoldable pub crosses : ℕ × ℕ → ℕ × ℕ → Bool
crosses p q =
    (nat_lt p.0 q.0 && (nat_lt q.0 p.1 && nat_lt p.1 q.1))
    || (nat_lt q.0 p.0 && (nat_lt p.0 q.1 && nat_lt q.1 p.1))
