-- A walk under way: what each turn of it does to what is left.
use Rattle.std.proofs.Common.{◌≡◌, ℕ, ◌+◌, ◌<◌, ◌≤◌, true, false, Some, None, Option, ap, ◌∙◌, arith}
use Rattle.std.proofs.lemmas.Bool.{both_ways}
use Rattle.oracle.proofs.Crossing.{homeless_root, crossed_some, crossed_none}
use Rattle.oracle.proofs.Family.{is_home_true, is_home_some}
use Rattle.oracle.proofs.WalkRules.{walk_vacant, walk_child, walk_other, walk_ends, walk_rises}
use Rattle.oracle.specs.Laws.{Object, Lawful}
use Rattle.oracle.specs.Outcomes.{across}
use Rattle.oracle.specs.Setup.{Code, Setup, filled}
use Rattle.oracle.specs.Sight.{is_home}
use Rattle.oracle.specs.Walk.{Walked, ended, reached, after, walk_from}

pub after_after : (m n : ℕ) (w : Walked) → after (m + n) w ≡ after m (after n w)
after_after m n w =
    let q : m + n + w.steps ≡ m + (n + w.steps) = omega arith in
    ap (λ k. record { stop = w.stop; steps = k }) q

-- one slot j of v looked at: crossing it answers r and leaves w
module _ (s : Setup) (v w : Code) (j : ℕ) (r : Option ℕ) (lt : j < s.width) (e : (r, w) ≡ across v (s.slot v j)) where
  pub turn_vacant : r ≡ None → (w ≡ v) × (walk_from s v j ≡ after 1 (walk_from s v (j + 1)))
  turn_vacant f = let g = crossed_none v w (s.slot v j) r e f in (g.1, walk_vacant s v j lt g.0)

  pub turn_child : (k : ℕ) → r ≡ Some k → is_home (s.home w) k ≡ true → walk_from s v j ≡ reached w
  turn_child k f i =
      walk_child s v w j k lt (crossed_some v w (s.slot v j) r k e f) (is_home_true (s.home w) k i)

  -- stepping back leads to v again
  pub turn_other : Lawful s → Object s v → (k : ℕ) (q : Option ℕ) (x : Code) → r ≡ Some k → is_home (s.home w) k ≡ false → (q, x) ≡ across w (s.slot w k) → (x ≡ v) × (walk_from s v j ≡ after 2 (walk_from s v (j + 1)))
  turn_other law o k q x f i back =
      let there = crossed_some v w (s.slot v j) r k e f in (
        ap (λ p. p.1) (back ∙ ap (across w) (law.return_leads_back v w j k o lt there)),
        walk_other s v w j k lt there (λ g. both_ways (is_home (s.home w) k) i (is_home_some (s.home w) k g)),
      )

-- no slot of v is left
module _ (s : Setup) (law : Lawful s) (v : Code) (o : Object s v) (j : ℕ) (le : s.width ≤ j) where
  pub turn_up : (u : Code) (h i : ℕ) → s.home v ≡ Some h → s.slot v h ≡ filled u i → walk_from s v j ≡ after 1 (walk_from s u (i + 1))
  turn_up u h i e f = walk_rises s law v u j h i o le e f

  pub turn_end : s.home v ≡ None → (v ≡ s.root) × (walk_from s v j ≡ ended)
  turn_end e = (homeless_root s law v o e, walk_ends s v j le e)
