-- A family of masks, said of numbers, and the set-up that it gives, said of codes.
use Rattle.std.specs.Prelude.{◌≡◌, ℕ, ◌^◌, ◌<◌, ◌≤◌, Bool, true, ◌&&◌, Some, None, Option, ◌≢◌}
use Rattle.oracle.specs.Setup.{Setup, Slot, vacant, filled}
use Rattle.masks.specs.Codes.{code, number, is_code}

-- A filled slot holds the neighbour and the return slot.
pub record Family : Type 0 where
  pub width : ℕ
  pub height : ℕ
  pub root : ℕ
  pub object : ℕ → Bool
  pub slot : ℕ → ℕ → Option (ℕ × ℕ)
  pub home : ℕ → Option ℕ
  pub rank : ℕ → ℕ

-- the laws of a set-up, said of masks
pub record FamilyLaws (f : Family) : Type 0 where
  pub width_limit : f.width ≤ 4096
  pub height_limit : f.height ≤ 1000000
  pub in_a_word : (s : ℕ) → f.object s ≡ true → s < 2 ^ 64
  pub rank_limit : (s : ℕ) → f.object s ≡ true → f.rank s ≤ f.height
  pub neighbour_object : (s r j k : ℕ) → f.object s ≡ true → j < f.width → f.slot s j ≡ Some (r, k) → f.object r ≡ true
  pub return_below : (s r j k : ℕ) → f.object s ≡ true → j < f.width → f.slot s j ≡ Some (r, k) → k < f.width
  pub return_leads_back : (s r j k : ℕ) → f.object s ≡ true → j < f.width → f.slot s j ≡ Some (r, k) → f.slot r k ≡ Some (s, j)
  pub root_object : f.object f.root ≡ true
  pub root_rank : f.rank f.root ≡ 0
  pub root_homeless : f.home f.root ≡ None
  pub has_home : (s : ℕ) → f.object s ≡ true → (s ≢ f.root) → (h : ℕ) × (f.home s ≡ Some h)
  pub home_below : (s h : ℕ) → f.object s ≡ true → f.home s ≡ Some h → h < f.width
  pub home_filled : (s h : ℕ) → f.object s ≡ true → f.home s ≡ Some h → (r : ℕ) × (i : ℕ) × (f.slot s h ≡ Some (r, i))
  pub parent_lower : (s r h i : ℕ) → f.object s ≡ true → f.home s ≡ Some h → f.slot s h ≡ Some (r, i) → f.rank r < f.rank s

abbrev pub as_slot : Option (ℕ × ℕ) → Slot
as_slot None = vacant
as_slot (Some x) = filled (code x.0) x.1

-- the same family with its masks written as codes
abbrev pub coded : Family → Setup
coded f =
    record {
      width = f.width;
      size = 8;
      height = f.height;
      root = code f.root;
      object = λ row. is_code row && f.object (number row);
      slot = λ row j. as_slot (f.slot (number row) j);
      home = λ row. f.home (number row);
      rank = λ row. f.rank (number row);
    }
