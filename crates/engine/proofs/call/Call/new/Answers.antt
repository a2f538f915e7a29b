use Rattle.std.proofs.Common.{rules}
use Rattle.engine.proofs.call.Call.new.Goals as goal

pub returns-clause-act : goal.returns-clause-act
returns-clause-act c = search rules
