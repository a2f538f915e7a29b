use Rattle.std.proofs.Common.{rules}
use Rattle.tiny_path.proofs.TinyPath.new.Goals as goal

pub returns-clause-sound : goal.returns-clause-sound
returns-clause-sound c = search rules

pub returns-clause-current : goal.returns-clause-current
returns-clause-current c = search rules

pub returns-clause-tick : goal.returns-clause-tick
returns-clause-tick c = search rules
