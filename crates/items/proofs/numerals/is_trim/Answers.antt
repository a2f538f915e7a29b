use Rattle.std.proofs.Common.{rules}
use Rattle.items.proofs.numerals.is_trim.Goals as goal

pub returns-else-bytes-ne48 : goal.returns-else-bytes-ne48
returns-else-bytes-ne48 c = search rules
