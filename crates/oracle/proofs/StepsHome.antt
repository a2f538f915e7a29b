-- How many steps home there are.
use Rattle.std.proofs.Common.{◌≡◌, ℕ, zero, suc, ◌+◌, ◌<◌, ◌≤◌, None, sym, refl, ap, ◌∙◌, arith}
use Rattle.oracle.proofs.Family.{Parent, Upward, upward, homeward_is, homeward_none}
use Rattle.oracle.proofs.HomeChain.{step_home}
use Rattle.oracle.proofs.Ticks.{ticks_more}
use Rattle.oracle.specs.Home.{ancestor, climbed, climb, steps_home}
use Rattle.oracle.specs.Laws.{Object, Lawful}
use Rattle.oracle.specs.Outcomes.{ticks}
use Rattle.oracle.specs.Setup.{Code, Setup}
use Rattle.oracle.specs.Statements.{StepsHome}

climb_ends : (s : Setup) (most : ℕ) (v : Code) → s.home v ≡ None → climb most s v ≡ 0
unfolding climb climbed
climb_ends s zero v e = refl
climb_ends s (suc most) v e = ap (λ t. climbed t (climb most s)) (homeward_none s v e)

climb_once : (s : Setup) (most : ℕ) (v : Code) (k : Parent s v) → climb (suc most) s v ≡ suc (climb most s k.parent)
unfolding climb climbed
climb_once s most v k = ap (λ t. climbed t (climb most s)) (homeward_is s v k.up k.home_is ∙ k.slot_is)

pub home_none : (s : Setup) (v : Code) → s.home v ≡ None → steps_home s v ≡ 0
unfolding steps_home
home_none s v e = climb_ends s (s.rank v) v e

module _ (s : Setup) (law : Lawful s) where
  -- any two bounds that suffice give one count
  climb_same : (v : Code) → Object s v → (a b : ℕ) → s.rank v ≤ a → s.rank v ≤ b → climb a s v ≡ climb b s v
  climb_same =
      upward s law (λ v. (a b : ℕ) → s.rank v ≤ a → s.rank v ≤ b → climb a s v ≡ climb b s v)
      (λ a b p q. climb_ends s a s.root law.root_homeless ∙ sym (climb_ends s b s.root law.root_homeless))
      step
    where
      step : Upward s law (λ v. (a b : ℕ) → s.rank v ≤ a → s.rank v ≤ b → climb a s v ≡ climb b s v)
      step v o k ih zero b p q = absurd (omega (arith, k.lower))
      step v o k ih (suc a) zero p q = absurd (omega (arith, k.lower))
      step v o k ih (suc a) (suc b) p q =
          climb_once s a v k
          ∙ ap suc (ih a b (omega (arith, k.lower)) (omega (arith, k.lower)))
          ∙ sym (climb_once s b v k)

  -- one more than from the parent
  pub home_more : (v : Code) (k : Parent s v) → steps_home s v ≡ suc (steps_home s k.parent)
  unfolding steps_home
  home_more v k = go (s.rank v) refl
    where
      go : (r : ℕ) → s.rank v ≡ r → climb r s v ≡ suc (climb (s.rank k.parent) s k.parent)
      go zero e = absurd (omega (arith, k.lower))
      go (suc r) e =
          climb_once s r v k
          ∙ ap suc (climb_same k.parent k.object_is r (s.rank k.parent) (omega (arith, k.lower)) (omega arith))

  -- what is said of one object
  record Counted (v : Code) : Type 0 where
    pub reaches : ancestor s (steps_home s v) v ≡ s.root
    pub no_sooner : (m : ℕ) → m < steps_home s v → ancestor s m v ≡ s.root → ⊥
    pub within_rank : steps_home s v ≤ s.rank v

  homed_apart : (v : Code) → Parent s v → v ≡ s.root → ⊥
  homed_apart v k e =
      let a = k.home_is in
      let b = law.root_homeless in
      let c = ap s.home e in
      let z : ◌≡◌ {A = ℕ} 0 1 = cc in
      absurd (omega arith)

  at_root : Counted s.root
  unfolding ancestor
  at_root =
      let z = home_none s s.root law.root_homeless in
      record {
        reaches = ap (λ n. ancestor s n s.root) z;
        no_sooner = λ m lt e. absurd (omega arith);
        within_rank = omega arith;
      }

  at_child : Upward s law Counted
  unfolding ancestor
  at_child v o k h =
      let more = home_more v k in
      let up = step_home s v k in
      record {
        reaches =
            ap (λ n. ancestor s n v) more ∙ ap (ancestor s (steps_home s k.parent)) up ∙ h.reaches;
        no_sooner = sooner;
        within_rank = omega (arith, more, k.lower, h.within_rank);
      }
    where
      sooner : (m : ℕ) → m < steps_home s v → ancestor s m v ≡ s.root → ⊥
      sooner zero lt e = homed_apart v k e
      sooner (suc m) lt e =
          h.no_sooner m (omega (arith, home_more v k)) (sym (ap (ancestor s m) (step_home s v k)) ∙ e)

  counted_all : (v : Code) → Object s v → Counted v
  counted_all = upward s law Counted at_root at_child

  pub steps_counted_home : StepsHome s
  steps_counted_home =
      record {
        reaches = λ v o. (counted_all v o).reaches;
        no_sooner = λ v m o. (counted_all v o).no_sooner m;
        within_rank = λ v o. (counted_all v o).within_rank;
      }

  -- a step home made, the count goes on to the same end
  pub home_ticks : (tick : ℕ → ℕ) (v : Code) (k : Parent s v) (x : ℕ) → ticks tick (steps_home s k.parent) (tick x) ≡ ticks tick (steps_home s v) x
  unfolding ticks
  home_ticks tick v k x =
      let n = steps_home s k.parent in
      let same : 1 + n ≡ steps_home s v = omega (arith, home_more v k) in
      ticks_more tick 1 n x ∙ ap (λ m. ticks tick m x) same
