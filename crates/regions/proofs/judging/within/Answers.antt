use Rattle.std.proofs.Common.{eqb, ap, ◌∙◌}
use Rattle.regions.proofs.Words.{word_within}
use Rattle.regions.proofs.judging.within.Goals as goal

pub returns : goal.returns
returns c = ap (λ r. eqb r 0) c.unbounded_shr.ensures ∙ word_within c.args.set c.args.n c.ranges.set.fits
