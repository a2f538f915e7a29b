-- A set-up cut at a rank: the objects of at most that rank, and the slots that lead to one of them.
-- All else is as below.
use Rattle.std.specs.Prelude.{ℕ, min, cond, ◌&&◌, nat_le}
use Rattle.oracle.specs.Setup.{Setup, Slot, vacant, filled}

-- a slot that leads to a rank above c is vacant
unfoldable pub kept : ℕ → Setup → Slot → Slot
kept c s vacant = vacant
kept c s (filled w k) = cond (nat_le (s.rank w) c) (filled w k) vacant

abbrev pub capped : ℕ → Setup → Setup
capped c s =
    record {
      width = s.width;
      size = s.size;
      height = min c s.height;
      root = s.root;
      object = λ v. s.object v && nat_le (s.rank v) c;
      slot = λ v j. kept c s (s.slot v j);
      home = s.home;
      rank = s.rank;
    }
