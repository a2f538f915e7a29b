use Rattle.std.proofs.Common.{◌≡◌, ◌*◌, ◌≤◌, drop}
use Rattle.std.specs.Iterator.Adapters.{zip_first, zip_second}
use Rattle.std.specs.Slice.Iter.{iter_rest}
use Rattle.maps.specs.Touch.{pair_total}
use Rattle.maps.proofs.map.Map.pair_count.Given as goal

abbrev pub invariant-loop-row : goal.invariant-loop-row
invariant-loop-row l =
    (goal.iterator-loop-row).can_next l.row-iterator
    × (goal.iterator-loop-row).is_finite l.row-iterator
    × (iter_rest (zip_first l.row-iterator) ≡ drop (zip_second l.row-iterator).start l.self.rows)
    × ((zip_second l.row-iterator).end ≡ l.self.n)
    × ((zip_second l.row-iterator).start ≤ l.self.n)
    × (l.total ≡ pair_total l.self.rows (zip_second l.row-iterator).start)
    × (l.total ≤ 64 * (zip_second l.row-iterator).start)
