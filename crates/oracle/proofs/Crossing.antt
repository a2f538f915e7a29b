-- What crossing a slot comes to, in a lawful set-up.
use Rattle.std.proofs.Common.{◌≡◌, ℕ, Some, None, Option, refl, ap, inl, inr, arith}
use Rattle.oracle.proofs.Codes.{SameCases, same_cases}
use Rattle.oracle.specs.Laws.{Object, Lawful}
use Rattle.oracle.specs.Outcomes.{across}
use Rattle.oracle.specs.Setup.{Code, Setup, Slot, vacant, filled}

pub crossed_some : (v w : Code) (t : Slot) (r : Option ℕ) (k : ℕ) → (r, w) ≡ across v t → r ≡ Some k → t ≡ filled w k
crossed_some v w vacant r k e f =
    let g = ap (λ p. p.0) e in
    let z : ◌≡◌ {A = ℕ} 0 1 = cc in
    absurd (omega arith)
crossed_some v w (filled x i) r k e f =
    let g = ap (λ p. p.0) e in
    let m = ap (λ p. p.1) e in
    cc

pub crossed_none : (v w : Code) (t : Slot) (r : Option ℕ) → (r, w) ≡ across v t → r ≡ None → (t ≡ vacant) × (w ≡ v)
crossed_none v w vacant r e f = (refl, ap (λ p. p.1) e)
crossed_none v w (filled x i) r e f =
    let g = ap (λ p. p.0) e in
    let z : ◌≡◌ {A = ℕ} 0 1 = cc in
    absurd (omega arith)

module _ (s : Setup) (law : Lawful s) (v : Code) (o : Object s v) where
  pub homeless_root : s.home v ≡ None → v ≡ s.root
  homeless_root e = go (same_cases v s.root)
    where
      go : SameCases v s.root → v ≡ s.root
      go (inl p) = p.0
      go (inr p) =
          let h = (law.has_home v o p.0).1 in
          let z : ◌≡◌ {A = ℕ} 0 1 = cc in
          absurd (omega arith)
