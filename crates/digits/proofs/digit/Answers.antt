use Rattle.std.proofs.Common.{ℕ, bit_and, ap, ◌∙◌}
use Rattle.digits.proofs.Digits.{bit_test_any}
use Rattle.digits.proofs.digit.Goals as goal

pub returns : goal.returns
returns c = ap (λ (x : ℕ). bit_and x 1) c.unbounded_shr.ensures ∙ bit_test_any c.args.s c.args.i c.ranges.s.fits
