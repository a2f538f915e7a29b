use Rattle.std.proofs.Common.{codes, sym, rules, arith}
use Rattle.std.proofs.lemmas.Bool.Decides.{nat_tests}
use Rattle.std.proofs.lemmas.Slice.Eq.{text_from_reads}
use Rattle.protocols.proofs.HexDigits.{at_hyphen, at_others, at_pairs}
use Rattle.protocols.proofs.bytes.digits_in.Goals as goal

pub returns-in-45 : goal.returns-in-45
returns-in-45 c =
    at_hyphen c.args.bytes.now (text_from_reads c.args.bytes.now (codes "-") (omega arith) (omega arith, tt))

pub returns-in_default : goal.returns-in_default
returns-in_default c =
    at_pairs c.args.bytes.now (search (rules, nat_tests)) (sym c.if-are_pairs.ensures)

pub returns-in_default-2 : goal.returns-in_default-2
returns-in_default-2 c =
    at_others c.args.bytes.now (search (rules, nat_tests)) (sym c.if-are_pairs.ensures)
