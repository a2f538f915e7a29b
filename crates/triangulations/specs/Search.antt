-- A test of all numbers below a bound. It stops at the first that fails.
use Rattle.std.specs.Prelude.{ℕ, zero, suc, Bool, true, false}

-- Whether each number below k passes the test.
unfoldable pub every : ℕ → (ℕ → Bool) → Bool
every zero f = true
every (suc k) f = elim (f k) [ true ↦ every k f | false ↦ false ]
