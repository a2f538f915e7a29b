use Rattle.std.proofs.Common.{rules}
use Rattle.engine.proofs.Resumes.{opens_again}
use Rattle.engine.proofs.Standings.{spot_of_tour}
use Rattle.engine.proofs.census.Census.save.Goals as goal

pub returns-clause-saved : goal.returns-clause-saved
returns-clause-saved g c = search (rules, spot_of_tour)

pub returns-clause-opens : goal.returns-clause-opens
returns-clause-opens g c = search (rules, opens_again, spot_of_tour)
