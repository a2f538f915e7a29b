use Rattle.std.proofs.Common.{refl, ◌∙◌, rules}
use borrow.Author.Tests.{tests}
use Rattle.std.proofs.lemmas.Iterator.{YieldsList-from_range}
use Rattle.std.proofs.lemmas.Iterator.Search.{all_from_yields_List}
use Rattle.polygon.specs.Rows.{fits}
use Rattle.polygon.proofs.Ranges.{all_every, every_zero}
use Rattle.polygon.proofs.outline.Outline.all_fit.Goals as goal

pub returns : goal.returns
returns c =
    let f = fits c.args.self.n c.args.row.now c.args.rows.now.0 in
    all_from_yields_List f _ _ _ c.all.ensures.ran (YieldsList-from_range 0 280 280 (cc) refl) (λ x r q k. (search (rules, tests), search (rules, tests)))
    ∙ all_every f 0 280 ∙ every_zero f 280
