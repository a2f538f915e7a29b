-- The turns of the way home, over any oracle: W is its meaning.
use Rattle.std.proofs.Common.{◌≡◌, ℕ, Some, None, Option, Result, sym, ap, ◌∙◌}
use Rattle.std.proofs.lemmas.Bool.{lt-ltb}
use Rattle.refusals.specs.declared.Refusal.{Refusal}
use Rattle.oracle.proofs.Crossing.{homeless_root}
use Rattle.oracle.proofs.Family.{home_parent}
use Rattle.oracle.proofs.StepsHome.{home_none, home_ticks}
use Rattle.oracle.specs.Calls.{stepped}
use Rattle.oracle.specs.Home.{steps_home}
use Rattle.oracle.specs.Outcomes.{ticks}
use Rattle.oracle.specs.Setup.{Code, Setup}
use Rattle.oracle.specs.declared.walking.Walking.{Ghosts}

-- On the way home from first's object, at o's: from here the calls come to what they come to from there.
pub record Homing (D : Type 0) (W : Ghosts D) (first o : D) : Type 0 where
  pub sound_now : W.sound o
  pub setup_same : W.setup o ≡ W.setup first
  pub to_come : ticks W.tick (steps_home (W.setup o) (W.current o)) (W.calls o) ≡ ticks W.tick (steps_home (W.setup first) (W.current first)) (W.calls first)

module _ {D : Type 0} {W : Ghosts D} {first o : D} (q : Homing D W first o) where
  -- a step home is made
  pub goes_on : (p : D) (h : ℕ) (r : Result (Option ℕ) Refusal) → (W.setup o).home (W.current o) ≡ Some h → W.sound p → W.setup p ≡ W.setup o → (r, W.current p) ≡ stepped (W.setup o) (W.current o) h → W.calls p ≡ W.tick (W.calls o) → Homing D W first p
  goes_on p h r e sound same moved calls =
      let s = W.setup o in
      let v = W.current o in
      let law = W.lawful o q.sound_now in
      let object = W.stands o q.sound_now in
      let (u, i, f) = law.home_filled v h object e in
      let k = home_parent s law v u h i object e f in
      let below = lt-ltb h s.width (law.home_below v h object e) in
      let there : W.current p ≡ u = ap (λ x. x.1) (rw (below, f, stepped) at moved) in
      record {
        sound_now = sound;
        setup_same = same ∙ q.setup_same;
        to_come =
            ap (λ (t : Setup). ticks W.tick (steps_home t (W.current p)) (W.calls p)) same
            ∙ ap (λ (w : Code). ticks W.tick (steps_home s w) (W.calls p)) there
            ∙ ap (ticks W.tick (steps_home s u)) calls
            ∙ home_ticks s law W.tick v k (W.calls o)
            ∙ q.to_come;
      }

  -- there is no home slot
  module _ (e : (W.setup o).home (W.current o) ≡ None) where
    pub ends_at : W.current o ≡ (W.setup first).root
    ends_at =
        homeless_root (W.setup o) (W.lawful o q.sound_now) (W.current o) (W.stands o q.sound_now) e
        ∙ ap (λ (t : Setup). t.root) q.setup_same

    pub all_called : W.calls o ≡ ticks W.tick (steps_home (W.setup first) (W.current first)) (W.calls first)
    unfolding ticks
    all_called =
        sym (ap (λ n. ticks W.tick n (W.calls o)) (home_none (W.setup o) (W.current o) e)) ∙ q.to_come
