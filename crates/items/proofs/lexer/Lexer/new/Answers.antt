use Rattle.std.proofs.Common.{rules}
use Rattle.items.proofs.lexer.Lexer.new.Goals as goal

pub returns-clause-place : goal.returns-clause-place
returns-clause-place c = search rules
