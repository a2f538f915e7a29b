use Rattle.masks.proofs.Codes.{code_is, number_code}
use Rattle.masks.proofs.Lift.{coded_lawful}
use Rattle.masks.proofs.RowDigits.{number_digits}
use Rattle.masks.proofs.masks_stand.Goals as goal

pub returns-clause-laws : goal.returns-clause-laws
returns-clause-laws c = coded_lawful

pub returns-clause-digits : goal.returns-clause-digits
returns-clause-digits c = number_digits

pub returns-clause-codes : goal.returns-clause-codes
returns-clause-codes c = λ s h. (code_is s, number_code s h)
