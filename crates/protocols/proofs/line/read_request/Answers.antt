use Rattle.std.proofs.Common.{sym, ◌∙◌}
use Rattle.protocols.proofs.Spelling.{request_alone, request_asking, spelled}
use Rattle.protocols.proofs.line.read_request.Goals as goal

pub returns-in-None : goal.returns-in-None
returns-in-None c =
    let value = c.one_word.ensures ∙ sym (request_alone c.args.line.now (sym c.in-None.ensures)) in
    record { value = value; spells = spelled c.args.line.now _ value }

pub returns-in-Some : goal.returns-in-Some
returns-in-Some c =
    let value = c.more_words.ensures ∙ sym (request_asking c.args.line.now c.in-Some.word.now c.in-Some.rest.now (sym c.in-Some.ensures)) in
    record { value = value; spells = spelled c.args.line.now _ value }
