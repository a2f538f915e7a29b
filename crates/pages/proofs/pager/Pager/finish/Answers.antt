use Rattle.std.proofs.Common.{◌≤◌, vec_items, refl, ap, arith}
use Rattle.oracle.specs.Outcomes.{ceiling}
use Rattle.pages.proofs.Passing.{finishes}
use Rattle.pages.proofs.pager.Pager.finish.Goals as goal

pub returns : goal.returns
returns g c =
    let W = g.O.Walking in
    let self = c.args.self.now in
    let s = W.setup self.census.oracle in
    let v = self.census.view in
    let same = c.tally-tally.ensures in
    let fits = c.tally-tally.type_inv in
    let small : v.tally.steps ≤ ceiling = omega (arith, ap (λ t. t.steps) same) in
    record {
      same = refl;
      lined =
          finishes s v self.most self.printed (vec_items c.args.out.now) (vec_items c.last_line.new.out) c.rank.result c.is_none-whole.result self.done c.tally-tally.result c.rank.ensures.placed.from small
          c.requires.undone
          c.requires.due
          c.rank.ensures.rank
          c.is_none-whole.ensures
          c.tally-tally.ensures
          c.in_ok-last_line.ensures.items;
      capacity = c.last_line.ensures.capacity;
      succeeds = λ _. refl;
    }
