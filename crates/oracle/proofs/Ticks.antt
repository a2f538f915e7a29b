-- A count that goes on.
use Rattle.std.proofs.Common.{◌≡◌, ℕ, zero, suc, ◌+◌, ap, ◌∙◌, arith}
use Rattle.oracle.specs.Outcomes.{ticks}

pub ticks_more : (tick : ℕ → ℕ) (m n x : ℕ) → ticks tick n (ticks tick m x) ≡ ticks tick (m + n) x
unfolding ticks
ticks_more tick m zero x = let k : m ≡ m + 0 = omega arith in ap (λ n. ticks tick n x) k
ticks_more tick m (suc n) x =
    let k : suc (m + n) ≡ m + suc n = omega arith in
    ap tick (ticks_more tick m n x) ∙ ap (λ n. ticks tick n x) k
