use Rattle.std.proofs.Common.{arith}
use Rattle.lines.proofs.Steps.{length_word}
use Rattle.lines.proofs.verdict.put_counted.Goals as goal

pub put_number-requires : goal.put_number-requires
put_number-requires c = omega (arith, length_word c.from.result (omega arith))

pub returns-clause-short : goal.returns-clause-short
returns-clause-short c = length_word c.args.number (omega arith)
