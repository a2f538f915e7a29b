-- What holds of every lawful set-up.
use Rattle.std.specs.Prelude.{◌≡◌, ℕ, ◌+◌, ◌*◌, ◌<◌, ◌≤◌, List, ◌∷◌, length, Some, None, ◌≢◌}
use Rattle.std.specs.List.{flat_map}
use Rattle.oracle.specs.Counting.{Enumerates, total, filled_of}
use Rattle.oracle.specs.Home.{ancestor, steps_home}
use Rattle.oracle.specs.Laws.{Object}
use Rattle.oracle.specs.Listing.{children, list_of, listing}
use Rattle.oracle.specs.Places.{at, place, objects, filled_slots}
use Rattle.oracle.specs.Setup.{Code, Setup, vacant, filled}
use Rattle.oracle.specs.Sight.{child, seen}
use Rattle.oracle.specs.Walk.{on, past, ended, reached, after, walk, walk_from}

-- The list holds every object exactly once and nothing else, the root first and parents before their
-- children; places and objects answer each other.
pub record Complete (s : Setup) : Type 0 where
  pub enumerated : Enumerates s (listing s)
  pub root_first : at s 1 ≡ on s.root
  pub parents_before : (v u : Code) (h i : ℕ) → Object s v → s.home v ≡ Some h → s.slot v h ≡ filled u i → place s u < place s v
  pub place_from : (v : Code) → Object s v → 1 ≤ place s v
  pub place_upto : (v : Code) → Object s v → place s v ≤ objects s
  pub at_its_place : (v : Code) → Object s v → at s (place s v) ≡ on v
  pub place_of_at : (v : Code) (p : ℕ) → at s p ≡ on v → place s v ≡ p
  pub at_object : (v : Code) (p : ℕ) → at s p ≡ on v → Object s v
  pub at_within : (p : ℕ) → 1 ≤ p → p ≤ objects s → (v : Code) × (at s p ≡ on v)
  pub at_beyond : (p : ℕ) → objects s < p → at s p ≡ past
  -- a slot shows a child exactly if it is filled with it and the return slot is the child's home slot
  pub shows_child : (v w : Code) (j k : ℕ) → s.slot v j ≡ filled w k → s.home w ≡ Some k → seen s v j ≡ child w
  pub child_shown : (v w : Code) (j : ℕ) → seen s v j ≡ child w → (k : ℕ) × (s.slot v j ≡ filled w k) × (s.home w ≡ Some k)
  -- the list of v is v, followed by the lists of its children in ascending slot order
  pub unrolled : (v : Code) → Object s v → list_of s v ≡ v ∷ flat_map (list_of s) (children s v)

-- The walk, case by case.
pub record WalkRules (s : Setup) : Type 0 where
  pub begins : (v : Code) → walk s v ≡ walk_from s v 0
  pub at_vacant : (v : Code) (j : ℕ) → Object s v → j < s.width → s.slot v j ≡ vacant → walk_from s v j ≡ after 1 (walk_from s v (j + 1))
  pub at_child : (v w : Code) (j k : ℕ) → Object s v → j < s.width → s.slot v j ≡ filled w k → s.home w ≡ Some k → walk_from s v j ≡ reached w
  pub at_other : (v w : Code) (j k : ℕ) → Object s v → j < s.width → s.slot v j ≡ filled w k → (s.home w ≢ Some k) → walk_from s v j ≡ after 2 (walk_from s v (j + 1))
  pub rises : (v u : Code) (j h i : ℕ) → Object s v → s.width ≤ j → s.home v ≡ Some h → s.slot v h ≡ filled u i → walk_from s v j ≡ after 1 (walk_from s u (i + 1))
  pub ends : (v : Code) (j : ℕ) → Object s v → s.width ≤ j → s.home v ≡ None → walk_from s v j ≡ ended

-- The walk from the object at a place stops at the next place; from the last one, past the end.
abbrev pub WalkLeadsOn : Setup → Type 0
WalkLeadsOn s = (v : Code) (p : ℕ) → at s p ≡ on v → (walk s v).stop ≡ at s (p + 1)

-- The steps of the walks of all places.
abbrev pub StepsCounted : Setup → Type 0
StepsCounted s = total (λ v. (walk s v).steps) (listing s) ≡ objects s * s.width + filled_slots s

-- N and F hang on no order.
abbrev pub Numbered : Setup → Type 0
Numbered s = (xs : List Code) → Enumerates s xs → (length xs ≡ objects s) × (total (filled_of s) xs ≡ filled_slots s)

-- Stepping home reaches the root, at the latest after as many steps as the rank says.
abbrev pub HomeChain : Setup → Type 0
HomeChain s = (v : Code) → Object s v → (n : ℕ) × (n ≤ s.rank v) × (ancestor s n v ≡ s.root)

-- How many steps home there are: so many reach the root, no fewer do, and the rank bounds them.
pub record StepsHome (s : Setup) : Type 0 where
  pub reaches : (v : Code) → Object s v → ancestor s (steps_home s v) v ≡ s.root
  pub no_sooner : (v : Code) (m : ℕ) → Object s v → m < steps_home s v → ancestor s m v ≢ s.root
  pub within_rank : (v : Code) → Object s v → steps_home s v ≤ s.rank v
