use Rattle.std.proofs.Common.{rules}
use Rattle.engine.proofs.census.Census.perform.Goals as goal

pub returns-in_err-resume-in-Resume-clause-performed :
    goal.returns-in_err-resume-in-Resume-clause-performed
returns-in_err-resume-in-Resume-clause-performed g c = search rules

pub returns-in_ok-resume-in-Resume-clause-performed :
    goal.returns-in_ok-resume-in-Resume-clause-performed
returns-in_ok-resume-in-Resume-clause-performed g c = search rules
