use Rattle.std.proofs.Common.{rules}
use Rattle.tiny_path.proofs.TinyPathWalking.step.Goals as goal

pub returns-then-self-gt0-clause-moved : goal.returns-then-self-gt0-clause-moved
returns-then-self-gt0-clause-moved c = search rules

pub returns-then-slot-ge-WIDTH-clause-called : goal.returns-then-slot-ge-WIDTH-clause-called
returns-then-slot-ge-WIDTH-clause-called c = search rules
