use Rattle.std.proofs.Common.{rules}
use Rattle.cap.proofs.Cutting.{cut}
use Rattle.cap.proofs.cap.Cap.new.Goals as goal

pub returns-clause-sound : goal.returns-clause-sound
returns-clause-sound g c = search rules

pub returns-clause-setup : goal.returns-clause-setup
returns-clause-setup g c = search rules

pub returns-clause-root : goal.returns-clause-root
returns-clause-root g c = search rules

pub returns-clause-cut : goal.returns-clause-cut
returns-clause-cut g c = rw c.go_home.ensures.setup (cut c.args.most (g.O.Walking.setup c.args.below))

pub returns-clause-called : goal.returns-clause-called
returns-clause-called g c = search rules
