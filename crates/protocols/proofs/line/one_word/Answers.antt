use Rattle.std.proofs.Common.{codes, sym, ap, arith}
use Rattle.std.proofs.lemmas.Slice.Eq.{text_from_reads}
use Rattle.protocols.specs.Reading.{alone}
use Rattle.protocols.proofs.line.one_word.Goals as goal

pub returns-in-restart : goal.returns-in-restart
returns-in-restart c =
    let text = text_from_reads c.args.line.now (codes "restart") (omega arith)
    (omega arith, (omega arith, (omega arith, (omega arith, (omega arith, (omega arith, (omega arith, tt))))))) in
    ap alone (sym text)
