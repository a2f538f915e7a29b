use Rattle.std.proofs.Common.{◌≡◌, ◌<◌, length, sym, subst, arith}
use Rattle.maps.specs.Touch.{Mutual, Inside}
use Rattle.maps.proofs.Tables.{mutual_with_pair, inside_with_pair, pair_good}
use Rattle.maps.proofs.draft.Draft.add.Goals as goal

pub invariant_of-self : goal.invariant_of-self
invariant_of-self c =
    let map = c.args.self.now.map in
    let good = pair_good map.n c.args.a c.args.b (sym c.in_default.ensures) in
    let long : length map.rows ≡ 64 = omega arith in
    let ha : c.args.a < 64 = omega arith in
    let hb : c.args.b < 64 = omega arith in
    record {
      some = map.some;
      few = map.few;
      «mutual» = subst (λ t. Mutual t) (sym c.enter.ensures) (mutual_with_pair map.rows c.args.a c.args.b long ha hb map.«mutual»);
      inside =
          subst (λ t. Inside map.n t) (sym c.enter.ensures)
          (inside_with_pair map.n map.rows c.args.a c.args.b long map.few good.0 good.1 map.inside);
    }
