use Rattle.std.proofs.Common.{get_or, arith}
use lib.Bits.{and_le_l}
use Rattle.polygon.proofs.Words.{second_positive, second_later}
use Rattle.polygon.specs.Rows.{common}
use Rattle.polygon.proofs.rows.Rows.apexes.Goals as goal

pub overflow_sub-result : goal.overflow_sub-result
overflow_sub-result c =
    let both = common c.args.self.now.0 c.args.line.a c.args.line.b in
    second_positive both (omega (arith, and_le_l (get_or c.args.self.now.0 c.args.line.a 0) (get_or c.args.self.now.0 c.args.line.b 0))) (omega (arith, c.requires))

pub invariant_of-result : goal.invariant_of-result
invariant_of-result c =
    let both = common c.args.self.now.0 c.args.line.a c.args.line.b in
    record {
      ordered = second_later both (omega (arith, and_le_l (get_or c.args.self.now.0 c.args.line.a 0) (get_or c.args.self.now.0 c.args.line.b 0))) (omega (arith, c.requires));
      within = c.requires;
    }
