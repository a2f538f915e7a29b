use Rattle.std.proofs.Common.{rules}
use Rattle.items.proofs.numerals.numeral.Goals as goal

pub returns-in_err-number : goal.returns-in_err-number
returns-in_err-number c = search rules
