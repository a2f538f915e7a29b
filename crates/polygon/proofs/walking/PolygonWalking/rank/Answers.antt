use Rattle.std.proofs.Common.{◌≡◌, ◌-◌, get_or, sym, ap, ◌∙◌, arith}
use lib.Count.{ones}
use Rattle.triangulations.specs.Moves.{rank_of}
use Rattle.polygon.proofs.CornerZero.{rank_ones}
use Rattle.polygon.proofs.Standing.{current_set, kept, same_set}
use Rattle.polygon.proofs.walking.PolygonWalking.rank.Goals as goal

pub overflow_sub-result-2 : goal.overflow_sub-result-2
overflow_sub-result-2 c = let p = c.args.self.now in omega (arith, rank_ones p.outline.n (current_set p) p.rows.0 (kept p))

pub returns : goal.returns
returns c =
    let p = c.args.self.now in
    let here : (p.outline.n - 1) - ones (get_or p.rows.0 0 0) ≡ rank_of p.outline.n (current_set p) =
    omega (arith, rank_ones p.outline.n (current_set p) p.rows.0 (kept p)) in
    here ∙ ap (rank_of p.outline.n) (sym (same_set p))
