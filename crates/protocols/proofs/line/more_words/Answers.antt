use Rattle.std.proofs.Common.{codes, sym, ap, ◌∙◌, rules, arith}
use Rattle.std.proofs.lemmas.Slice.Eq.{text_from_reads}
use Rattle.protocols.specs.Reading.{asking}
use Rattle.protocols.proofs.Spelling.{others_asked}
use Rattle.protocols.proofs.line.more_words.Goals as goal

pub returns-in-resume : goal.returns-in-resume
returns-in-resume c =
    let text = text_from_reads c.args.word.now (codes "resume") (omega arith)
    (omega arith, (omega arith, (omega arith, (omega arith, (omega arith, (omega arith, tt)))))) in
    c.resume_from.ensures ∙ ap (λ w. asking w c.args.rest.now) (sym text)

pub returns-in_default : goal.returns-in_default
returns-in_default c = others_asked c.args.word.now c.args.rest.now (search rules) (search rules) (search rules)
