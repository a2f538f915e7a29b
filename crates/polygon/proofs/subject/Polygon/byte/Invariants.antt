use Rattle.std.proofs.Common.{◌≡◌, ◌+◌, ◌*◌, ◌<◌, ◌≤◌}
use Rattle.pairs.specs.Pairs.{pair_count}
use Rattle.polygon.proofs.Reading.{Read}
use Rattle.polygon.proofs.subject.Polygon.byte.Given as goal

abbrev pub invariant-loop-next : goal.invariant-loop-next
invariant-loop-next l =
    (0 < l.next) × (l.next ≤ l.self.outline.n) × (pair_count l.next ≡ 8 * l.k + l.read)
    × Read l.self.outline.n l.self.rows.0 l.k (pair_count l.next) l.digits
