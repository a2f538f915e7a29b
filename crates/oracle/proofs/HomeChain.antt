-- Stepping home reaches the root.
use Rattle.std.proofs.Common.{◌≡◌, ℕ, suc, ◌≤◌, refl, ap, ◌∙◌, arith}
use Rattle.oracle.proofs.Family.{Parent, upward, homeward_is}
use Rattle.oracle.specs.Home.{homeward, neighbour_or, ancestor}
use Rattle.oracle.specs.Laws.{Lawful}
use Rattle.oracle.specs.Setup.{Code, Setup}
use Rattle.oracle.specs.Statements.{HomeChain}

-- one step home is to the parent
pub step_home : (s : Setup) (v : Code) (k : Parent s v) → neighbour_or v (homeward s v) ≡ k.parent
unfolding neighbour_or
step_home s v k = ap (neighbour_or v) (homeward_is s v k.up k.home_is ∙ k.slot_is)

pub home_chain : (s : Setup) → Lawful s → HomeChain s
unfolding ancestor
home_chain s law =
    upward s law (λ v. (n : ℕ) × (n ≤ s.rank v) × (ancestor s n v ≡ s.root))
    (0, omega arith, refl)
    (λ v o k h.
    (suc h.0, omega (arith, h.1, k.lower), ap (ancestor s h.0) (step_home s v k) ∙ h.2))
