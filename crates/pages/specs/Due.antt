-- What comes next in a listing.
use Rattle.std.specs.Prelude.{ℕ, cond, None, Option, nat_lt}
use Rattle.oracle.specs.Places.{at}
use Rattle.oracle.specs.Setup.{Setup}
use Rattle.engine.specs.Places.{rank_at}
use Rattle.engine.specs.View.{View}

-- The rank of the object at the place, while fewer are printed than may be; else none, and the last
-- line is due.
abbrev pub due_rank : Setup → View → ℕ → ℕ → Option ℕ
due_rank s v most printed = cond (nat_lt printed most) (rank_at s (at s v.stand.place)) None
