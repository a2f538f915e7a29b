-- What a cap says, in words of the set-up below: b is the set-up below, and s is b cut at the rank c.
use Rattle.std.specs.Prelude.{◌≡◌, ℕ, ◌<◌, ◌≤◌, ◌↔◌, min, Decides}
use Rattle.oracle.specs.Laws.{Object}
use Rattle.oracle.specs.Setup.{Code, Setup, vacant, filled}

pub record Cut (c : ℕ) (b s : Setup) : Type 0 where
  -- the objects are those below of at most the rank c
  pub objects : (v : Code) → Decides (s.object v) (Object b v × (b.rank v ≤ c))
  -- a slot is filled exactly if it is filled below with a neighbour of at most that rank, by the same return slot
  pub slots : (v w : Code) (j k : ℕ) → (s.slot v j ≡ filled w k) ↔ ((b.slot v j ≡ filled w k) × (b.rank w ≤ c))
  -- all other slots are vacant
  pub others : (v : Code) (j : ℕ) → ((w : Code) (k : ℕ) → b.slot v j ≡ filled w k → c < b.rank w) → s.slot v j ≡ vacant
  -- the smaller of the cap and the height below
  pub height : s.height ≡ min c b.height
  -- and all else is as below
  pub width : s.width ≡ b.width
  pub size : s.size ≡ b.size
  pub root : s.root ≡ b.root
  pub home : (v : Code) → s.home v ≡ b.home v
  pub rank : (v : Code) → s.rank v ≡ b.rank v
