use Rattle.std.proofs.Common.{sym, ◌∙◌}
use Rattle.std.proofs.lemmas.Bool.{eqb-true}
use Rattle.polygon.proofs.Holding.{held_joined, held_apart}
use Rattle.polygon.proofs.subject.Polygon.has.Goals as goal

pub returns-then-are_joined : goal.returns-then-are_joined
returns-then-are_joined c =
    let p = c.args.self.now in
    c.is_diagonal.ensures
    ∙ held_joined p.outline.n p.rows.0 c.args.e (c.at-line.result.a, c.at-line.result.b) c.at-line.ensures (eqb-true _ 1 (sym c.if-are_joined.ensures))

pub returns-else-are_joined : goal.returns-else-are_joined
returns-else-are_joined c =
    let p = c.args.self.now in
    c.if-are_joined.false
    ∙ held_apart p.outline.n p.rows.0 c.args.e (c.at-line.result.a, c.at-line.result.b) c.at-line.ensures (sym c.if-are_joined.ensures)
