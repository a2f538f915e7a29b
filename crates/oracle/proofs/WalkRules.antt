-- The walk, case by case.
use Rattle.std.proofs.Common.{◌≡◌, ℕ, ◌+◌, ◌<◌, ◌≤◌, Some, None, refl, ap, ◌∙◌}
use Rattle.oracle.proofs.Family.{home_parent, seen_vacant, seen_child, seen_other}
use Rattle.oracle.proofs.Rises.{scan_more, scan_none, rise_ends, rise_parent}
use Rattle.oracle.specs.Laws.{Object, Lawful}
use Rattle.oracle.specs.Setup.{Code, Setup, vacant, filled}
use Rattle.oracle.specs.Sight.{seen}
use Rattle.oracle.specs.Statements.{WalkRules}
use Rattle.oracle.specs.Walk.{ended, reached, after, passing, rise, walk_from}

-- at a slot that is left, the walk goes by what is seen there
pub walk_more : (s : Setup) (v : Code) (j : ℕ) → j < s.width → walk_from s v j ≡ passing (seen s v j) (walk_from s v (j + 1))
unfolding walk_from
walk_more s v j lt = scan_more s v j (rise (s.rank v) s v) lt

pub walk_vacant : (s : Setup) (v : Code) (j : ℕ) → j < s.width → s.slot v j ≡ vacant → walk_from s v j ≡ after 1 (walk_from s v (j + 1))
unfolding passing
walk_vacant s v j lt e =
    walk_more s v j lt ∙ ap (λ t. passing t (walk_from s v (j + 1))) (seen_vacant s v j e)

pub walk_child : (s : Setup) (v w : Code) (j k : ℕ) → j < s.width → s.slot v j ≡ filled w k → s.home w ≡ Some k → walk_from s v j ≡ reached w
unfolding passing
walk_child s v w j k lt e h =
    walk_more s v j lt ∙ ap (λ t. passing t (walk_from s v (j + 1))) (seen_child s v w j k e h)

pub walk_other : (s : Setup) (v w : Code) (j k : ℕ) → j < s.width → s.slot v j ≡ filled w k → (s.home w ≡ Some k → ⊥) → walk_from s v j ≡ after 2 (walk_from s v (j + 1))
unfolding passing
walk_other s v w j k lt e n =
    walk_more s v j lt ∙ ap (λ t. passing t (walk_from s v (j + 1))) (seen_other s v w j k e n)

pub walk_ends : (s : Setup) (v : Code) (j : ℕ) → s.width ≤ j → s.home v ≡ None → walk_from s v j ≡ ended
unfolding walk_from
walk_ends s v j le e = scan_none s v j (rise (s.rank v) s v) le ∙ rise_ends s (s.rank v) v e

pub walk_rises : (s : Setup) → Lawful s → (v u : Code) (j h i : ℕ) → Object s v → s.width ≤ j → s.home v ≡ Some h → s.slot v h ≡ filled u i → walk_from s v j ≡ after 1 (walk_from s u (i + 1))
unfolding walk_from
walk_rises s law v u j h i o le e f =
    scan_none s v j (rise (s.rank v) s v) le ∙ rise_parent s law v (home_parent s law v u h i o e f)

pub walk_rules : (s : Setup) → Lawful s → WalkRules s
walk_rules s law =
    record {
      begins = λ v. refl;
      at_vacant = λ v j o. walk_vacant s v j;
      at_child = λ v w j k o. walk_child s v w j k;
      at_other = λ v w j k o. walk_other s v w j k;
      rises = walk_rises s law;
      ends = λ v j o. walk_ends s v j;
    }
