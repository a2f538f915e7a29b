use Rattle.std.proofs.Common.{rules}
use Rattle.connected.proofs.Laws.{empty_set, code_decides}
use Rattle.connected.proofs.Members.{textbook}
use Rattle.regions.proofs.subject.Regions.new.Goals as goal

pub invariant_of-result : goal.invariant_of-result
invariant_of-result c = let empty = empty_set c.args.map.now.n c.args.map.now.rows in record { stands = empty; stood = empty }

pub returns-clause-sound : goal.returns-clause-sound
returns-clause-sound c = search rules

pub returns-clause-setup : goal.returns-clause-setup
returns-clause-setup c = search rules

pub returns-clause-root : goal.returns-clause-root
returns-clause-root c = search rules

pub returns-clause-objects : goal.returns-clause-objects
returns-clause-objects c = let m = c.args.map.now in code_decides m.n m.rows m.few m.mutual

pub returns-clause-textbook : goal.returns-clause-textbook
returns-clause-textbook c = let m = c.args.map.now in textbook m.n m.rows m.few m.mutual
