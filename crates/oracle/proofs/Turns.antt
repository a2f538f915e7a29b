-- The turns of the walk's two loops, over any oracle: W is its meaning.
use Rattle.std.proofs.Common.{◌≡◌, ℕ, ◌+◌, ◌<◌, ◌≤◌, min, true, false, Some, None, Option, sym, refl, ap, ◌∙◌, subst, arith}
use Rattle.oracle.proofs.Landing.{walk_lands}
use Rattle.oracle.proofs.Progress.{after_after, turn_vacant, turn_child, turn_other, turn_up, turn_end}
use Rattle.oracle.proofs.Ticks.{ticks_more}
use Rattle.oracle.specs.Laws.{Object, Lawful}
use Rattle.oracle.specs.Outcomes.{ceiling, counted, across, landing, rested, ticks}
use Rattle.oracle.specs.Places.{place}
use Rattle.oracle.specs.Setup.{Setup, filled}
use Rattle.oracle.specs.Sight.{is_home}
use Rattle.oracle.specs.Walk.{Walked, Spot, on, past, reached, after, walk_from}
use Rattle.oracle.specs.declared.outcome.Reached.{Reached}
use Rattle.oracle.specs.declared.outcome.Reached.TheVariants.{Child, End}
use Rattle.oracle.specs.declared.walking.Walking.{Ghosts}

-- The walk that began at slot j₀ of first's object, with a₀ steps counted before, is at slot j of o's with a.
pub record Rising (D : Type 0) (W : Ghosts D) (first : D) (j₀ a₀ : ℕ) (o : D) (j a : ℕ) : Type 0 where
  pub sound_now : W.sound o
  pub setup_same : W.setup o ≡ W.setup first
  pub made : ℕ
  pub onward : walk_from (W.setup first) (W.current first) j₀ ≡ after made (walk_from (W.setup first) (W.current o) j)
  pub counted_is : a ≡ counted (a₀ + made)
  pub called : W.calls o ≡ ticks W.tick made (W.calls first)

-- Scanning: besides, the object at which the scan began is current.
pub record Scanning (D : Type 0) (W : Ghosts D) (first : D) (j₀ a₀ : ℕ) (o : D) (j a : ℕ) : Type 0 where
  pub rising : Rising D W first j₀ a₀ o j a
  pub current_same : W.current o ≡ W.current first

-- What crossing slot j from o to p answers, r, and does.
pub record Crossing (D : Type 0) (W : Ghosts D) (o : D) (j : ℕ) (r : Option ℕ) (p : D) : Type 0 where
  pub sound_now : W.sound p
  pub setup_same : W.setup p ≡ W.setup o
  pub crossed : (r, W.current p) ≡ across (W.current o) ((W.setup o).slot (W.current o) j)
  pub called : W.calls p ≡ W.tick (W.calls o)

-- What the walk from slot j₀ of first's object answers, and leaves at o.
pub record Ended (D : Type 0) (W : Ghosts D) (first : D) (j₀ : ℕ) (reached : Reached) (o : D) (steps : ℕ) : Type 0 where
  pub sound_now : W.sound o
  pub setup_same : W.setup o ≡ W.setup first
  pub stopped : (reached, W.current o) ≡ rested (W.setup first) (walk_from (W.setup first) (W.current first) j₀).stop
  pub counted_is : steps ≡ counted (walk_from (W.setup first) (W.current first) j₀).steps
  pub called : W.calls o ≡ ticks W.tick (walk_from (W.setup first) (W.current first) j₀).steps (W.calls first)

module _ {D : Type 0} {W : Ghosts D} where
  -- a walk begins
  pub begins : (first : D) (j a : ℕ) → W.sound first → a ≤ ceiling → Rising D W first j a first j a
  unfolding ticks
  begins first j a sound le =
      let w = walk_from (W.setup first) (W.current first) j in
      let q : w.steps ≡ 0 + w.steps = omega arith in
      record {
        sound_now = sound;
        setup_same = refl;
        made = 0;
        onward = ap (λ k. record { stop = w.stop; steps = k }) q;
        counted_is = omega arith;
        called = refl;
      }

  -- n steps more, from o to p
  further : {first o p : D} {j₀ a₀ j a : ℕ} (q : Rising D W first j₀ a₀ o j a) (n k b : ℕ) → W.sound p → W.setup p ≡ W.setup o → walk_from (W.setup o) (W.current o) j ≡ after n (walk_from (W.setup o) (W.current p) k) → b ≡ counted (a + n) → W.calls p ≡ ticks W.tick n (W.calls o) → Rising D W first j₀ a₀ p k b
  further {first} {o} {p} {j₀} {a₀} {j} {a} q n k b sound same walked counts calls =
      let s = W.setup first in
      let here = subst (λ (t : Setup). walk_from t (W.current o) j ≡ after n (walk_from t (W.current p) k)) q.setup_same walked in
      record {
        sound_now = sound;
        setup_same = same ∙ q.setup_same;
        made = q.made + n;
        onward = q.onward ∙ ap (after q.made) here ∙ sym (after_after q.made n (walk_from s (W.current p) k));
        counted_is = omega (arith, q.counted_is);
        called = calls ∙ ap (ticks W.tick n) q.called ∙ ticks_more W.tick q.made n (W.calls first);
      }

  -- a scan under way is the rising walk one scan further
  pub scanned : {first begin o : D} {j₀ a₀ j₁ a₁ j a : ℕ} → Rising D W first j₀ a₀ begin j₁ a₁ → Scanning D W begin j₁ a₁ o j a → Rising D W first j₀ a₀ o j a
  scanned {first} {begin} {o} {j₀} {a₀} {j₁} {a₁} {j} {a} p q =
      let r = q.rising in
      further p r.made j a r.sound_now r.setup_same r.onward r.counted_is r.called

  -- the width that was asked for at first
  pub scan_below : {first o : D} {j₀ a₀ j a w : ℕ} → Rising D W first j₀ a₀ o j a → w ≡ (W.setup first).width → j < w → j < (W.setup o).width
  scan_below p e lt =
      let kept = ap (λ (t : Setup). t.width) p.setup_same in
      omega arith

  pub scan_over : {first o : D} {j₀ a₀ j a w : ℕ} → Rising D W first j₀ a₀ o j a → w ≡ (W.setup first).width → w ≤ j → (W.setup o).width ≤ j
  scan_over p e le =
      let kept = ap (λ (t : Setup). t.width) p.setup_same in
      omega arith

  -- one slot of the scan
  module _ {first o p : D} {j₀ a₀ j a : ℕ} {r : Option ℕ} (q : Scanning D W first j₀ a₀ o j a) (lt : j < (W.setup o).width) (x : Crossing D W o j r p) where
    law : Lawful (W.setup o)
    law = W.lawful o q.rising.sound_now

    stands : Object (W.setup o) (W.current o)
    stands = W.stands o q.rising.sound_now

    pub scan_vacant : {m : D} {b : ℕ} → r ≡ None → m ≡ p → b ≡ min (a + 1) ceiling → Scanning D W first j₀ a₀ m (j + 1) b
    unfolding ticks
    scan_vacant {m} {b} e f d =
        let turn = turn_vacant (W.setup o) (W.current o) (W.current p) j r lt x.crossed e in
        let same : W.current m ≡ W.current o = ap W.current f ∙ turn.0 in
        record {
          rising =
              further q.rising 1 (j + 1) b (subst W.sound (sym f) x.sound_now) (ap W.setup f ∙ x.setup_same)
              (turn.1 ∙ sym (ap (λ v. after 1 (walk_from (W.setup o) v (j + 1))) same))
              d
              (ap W.calls f ∙ x.called);
          current_same = same ∙ q.current_same;
        }

    pub scan_other : {m z : D} {b k : ℕ} {t : Option ℕ} → r ≡ Some k → is_home ((W.setup p).home (W.current p)) k ≡ false → Crossing D W p k t z → m ≡ z → b ≡ min (min (a + 1) ceiling + 1) ceiling → Scanning D W first j₀ a₀ m (j + 1) b
    unfolding ticks
    scan_other {m} {z} {b} {k} {t} e h y f d =
        let turn =
        turn_other (W.setup o) (W.current o) (W.current p) j r lt x.crossed law stands k t (W.current z) e
        (subst (λ (s : Setup). is_home (s.home (W.current p)) k ≡ false) x.setup_same h)
        (subst (λ (s : Setup). (t, W.current z) ≡ across (W.current p) (s.slot (W.current p) k)) x.setup_same y.crossed) in
        let same : W.current m ≡ W.current o = ap W.current f ∙ turn.0 in
        record {
          rising =
              further q.rising 2 (j + 1) b (subst W.sound (sym f) y.sound_now) (ap W.setup f ∙ y.setup_same ∙ x.setup_same)
              (turn.1 ∙ sym (ap (λ v. after 2 (walk_from (W.setup o) v (j + 1))) same))
              (omega arith)
              (ap W.calls f ∙ y.called ∙ ap W.tick x.called);
          current_same = same ∙ q.current_same;
        }

  -- the walk stops at a spot, n steps on, with p left at it
  arrive : (first o p : D) (j₀ j a b n : ℕ) (spot : Spot) (reached : Reached) → Rising D W first j₀ 0 o j a → W.sound p → W.setup p ≡ W.setup o → walk_from (W.setup o) (W.current o) j ≡ record { stop = spot; steps = n } → b ≡ counted (a + n) → W.calls p ≡ ticks W.tick n (W.calls o) → (reached, W.current p) ≡ rested (W.setup first) spot → Ended D W first j₀ reached p b
  arrive first o p j₀ j a b n spot reached q h e there counts calls rest =
      let moved = subst (λ (t : Setup). walk_from t (W.current o) j ≡ record { stop = spot; steps = n }) q.setup_same there in
      let whole = q.onward ∙ ap (after q.made) moved in
      let steps = ap (λ (r : Walked). r.steps) whole in
      record {
        sound_now = h;
        setup_same = e ∙ q.setup_same;
        stopped = rest ∙ ap (rested (W.setup first)) (sym (ap (λ (r : Walked). r.stop) whole));
        counted_is = omega (arith, q.counted_is);
        called =
            calls
            ∙ ap (ticks W.tick n) q.called
            ∙ ticks_more W.tick q.made n (W.calls first)
            ∙ ap (λ k. ticks W.tick k (W.calls first)) (sym steps);
      }

  pub ends_at_child : {first o p : D} {j₀ j a b k : ℕ} {r : Option ℕ} → Rising D W first j₀ 0 o j a → j < (W.setup o).width → Crossing D W o j r p → r ≡ Some k → is_home ((W.setup p).home (W.current p)) k ≡ true → b ≡ min (a + 1) ceiling → Ended D W first j₀ Child p b
  unfolding ticks
  ends_at_child {first} {o} {p} {j₀} {j} {a} {b} {k} {r} q lt x e h d =
      arrive first o p j₀ j a b 1 (on (W.current p)) Child q x.sound_now x.setup_same
      (turn_child (W.setup o) (W.current o) (W.current p) j r lt x.crossed k e
      (subst (λ (s : Setup). is_home (s.home (W.current p)) k ≡ true) x.setup_same h))
      d
      x.called
      refl

  -- no slot of o's object is left
  module _ {first o : D} {j₀ a₀ j a : ℕ} (q : Rising D W first j₀ a₀ o j a) (le : (W.setup o).width ≤ j) where
    pub rise_on : {p : D} {h i b : ℕ} → (W.setup o).home (W.current o) ≡ Some h → W.sound p → W.setup p ≡ W.setup o → (W.setup o).slot (W.current o) h ≡ filled (W.current p) i → b ≡ min (a + 1) ceiling → W.calls p ≡ W.tick (W.calls o) → Rising D W first j₀ a₀ p (i + 1) b
    unfolding ticks
    rise_on {p} {h} {i} {b} e sound same f d calls =
        further q 1 (i + 1) b sound same
        (turn_up (W.setup o) (W.lawful o q.sound_now) (W.current o) (W.stands o q.sound_now) j le (W.current p) h i e f)
        d
        calls

  pub ends_at_root : {first o : D} {j₀ j a : ℕ} → Rising D W first j₀ 0 o j a → (W.setup o).width ≤ j → (W.setup o).home (W.current o) ≡ None → Ended D W first j₀ End o a
  unfolding ticks
  ends_at_root {first} {o} {j₀} {j} {a} q le e =
      let turn = turn_end (W.setup o) (W.lawful o q.sound_now) (W.current o) (W.stands o q.sound_now) j le e in
      arrive first o o j₀ j a a 0 past End q q.sound_now refl turn.1 (omega (arith, q.counted_is)) refl
      (ap (λ v. (End, v)) (turn.0 ∙ ap (λ (t : Setup). t.root) q.setup_same))

-- the walk from slot 0 leads to the next place
pub ended_next : {D : Type 0} {W : Ghosts D} {first o : D} {j₀ b : ℕ} {reached : Reached} → Ended D W first j₀ reached o b → W.sound first → j₀ ≡ 0 → landing (W.setup first) reached (W.current o) ≡ place (W.setup first) (W.current first) + 1
ended_next {W = W} {first} {o} {reached = reached} end sound e =
    let s = W.setup first in
    let v = W.current first in
    walk_lands s (W.lawful first sound) v (W.stands first sound) reached (W.current o)
    (end.stopped ∙ ap (λ i. rested s (walk_from s v i).stop) e)
