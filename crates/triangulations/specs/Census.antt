-- The set-up of the census of the triangulations of a polygon with n corners.
use Rattle.std.specs.Prelude.{ℕ, ◌-◌, Bool, true, false, Some, None, Option, ◌==◌}
use Rattle.oracle.specs.Setup.{Code, Setup, Slot, vacant, filled}
use Rattle.pairs.specs.Pairs.{pair_count}
use Rattle.triangulations.specs.Codes.{members, code_of, is_row}
use Rattle.triangulations.specs.Moves.{replacement, exchanged, home_slot, rank_of, fan}
use Rattle.triangulations.specs.Objects.{is_triangulation}
use Rattle.triangulations.specs.Textbook.{PairSet}

-- Slot e with its diagonal replaced by this one.
unfoldable pub slot_to : PairSet → ℕ → Option ℕ → Slot
slot_to S e None = vacant
slot_to S e (Some f) = filled (code_of (exchanged S e f)) f

-- Slot e is filled if diagonal e is in the set.
unfoldable pub slot_of : ℕ → PairSet → ℕ → Slot
slot_of n S e = elim (S e == 1) [ true ↦ slot_to S e (replacement n S e) | false ↦ vacant ]

unfoldable pub is_object : ℕ → Code → Bool
is_object n v = elim (is_row v) [ true ↦ is_triangulation n (members v) | false ↦ false ]

abbrev pub polygon : ℕ → Setup
polygon n =
    record {
      width = pair_count n;
      size = 35;
      height = n - 3;
      root = code_of (fan n);
      object = is_object n;
      slot = λ v e. slot_of n (members v) e;
      home = λ v. home_slot n (members v);
      rank = λ v. rank_of n (members v);
    }
