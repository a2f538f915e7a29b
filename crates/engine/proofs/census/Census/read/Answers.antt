use Rattle.std.proofs.Common.{rules}
use Rattle.engine.proofs.Standings.{spot_of_tour}
use Rattle.engine.proofs.census.Census.read.Goals as goal

pub returns : goal.returns
returns g c = search (rules, spot_of_tour)
