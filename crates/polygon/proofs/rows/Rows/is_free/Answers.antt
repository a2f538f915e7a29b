use Rattle.std.proofs.Common.{◌+◌, ◌-◌, ◌∙◌, refl, rules}
use borrow.Author.Tests.{tests}
use Rattle.std.proofs.lemmas.Iterator.{YieldsList-from_range}
use Rattle.std.proofs.lemmas.Iterator.Search.{all_from_yields_List}
use Rattle.polygon.specs.Rows.{stays_within, is_free}
use Rattle.polygon.proofs.Ranges.{all_every}
use Rattle.polygon.proofs.rows.Rows.is_free.Goals as goal

pub returns : goal.returns
unfolding is_free
returns c =
    let a = c.args.line.a in
    let b = c.args.line.b in
    let f = stays_within c.args.self.now.0 a b in
    all_from_yields_List f _ _ _ c.all.ensures.ran (YieldsList-from_range (a + 1) b (b - (a + 1)) (cc) refl) (λ x r q k. (search (rules, tests), search (rules, tests)))
    ∙ all_every f (a + 1) (b - (a + 1))
