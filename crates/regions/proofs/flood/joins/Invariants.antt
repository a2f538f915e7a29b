use Rattle.std.proofs.Common.{◌-◌}
use lib.Count.{count_trailing_zeros}
use Rattle.digits.specs.Bits.{bit, count}
use Rattle.connected.proofs.Flooding.{Flooding}
use Rattle.regions.proofs.flood.joins.Given as goal

abbrev pub invariant-loop-seen : goal.invariant-loop-seen
invariant-loop-seen l = Flooding l.map.rows l.set (count_trailing_zeros 64 l.ends) l.seen l.done

-- the regions not looked at yet
abbrev pub decreases-loop-seen : goal.decreases-loop-seen
decreases-loop-seen l = 64 - count 64 (bit l.done)
