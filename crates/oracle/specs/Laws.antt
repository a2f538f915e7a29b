-- The laws of a set-up.
use Rattle.std.specs.Prelude.{◌≡◌, ℕ, ◌<◌, ◌≤◌, true, length, Some, None, ◌≢◌}
use Rattle.std.specs.List.{AllByRecursion}
use Rattle.oracle.specs.Setup.{Code, Setup, filled}

abbrev pub Object : Setup → Code → Type 0
Object s v = s.object v ≡ true

-- The limits, the shape of codes, ranks within the height, and three laws: slots lead back; the root
-- is at the bottom and has no home slot; every other object has one, and it leads to a lower rank.
pub record Lawful (s : Setup) : Type 0 where
  pub width_limit : s.width ≤ 4096
  pub size_positive : 1 ≤ s.size
  pub size_limit : s.size ≤ 480
  pub height_limit : s.height ≤ 1000000
  pub code_size : (v : Code) → Object s v → length v ≡ s.size
  pub code_bytes : (v : Code) → Object s v → AllByRecursion (λ b. b < 256) v
  pub rank_limit : (v : Code) → Object s v → s.rank v ≤ s.height
  -- law 1: of a filled slot
  pub neighbour_object : (v w : Code) (j k : ℕ) → Object s v → j < s.width → s.slot v j ≡ filled w k → Object s w
  pub return_below : (v w : Code) (j k : ℕ) → Object s v → j < s.width → s.slot v j ≡ filled w k → k < s.width
  pub return_leads_back : (v w : Code) (j k : ℕ) → Object s v → j < s.width → s.slot v j ≡ filled w k → s.slot w k ≡ filled v j
  -- law 2: of the root
  pub root_object : Object s s.root
  pub root_rank : s.rank s.root ≡ 0
  pub root_homeless : s.home s.root ≡ None
  -- law 3: of every other object
  pub has_home : (v : Code) → Object s v → (v ≢ s.root) → (h : ℕ) × (s.home v ≡ Some h)
  pub home_below : (v : Code) (h : ℕ) → Object s v → s.home v ≡ Some h → h < s.width
  pub home_filled : (v : Code) (h : ℕ) → Object s v → s.home v ≡ Some h → (u : Code) × (i : ℕ) × (s.slot v h ≡ filled u i)
  pub parent_lower : (v u : Code) (h i : ℕ) → Object s v → s.home v ≡ Some h → s.slot v h ≡ filled u i → s.rank u < s.rank v
