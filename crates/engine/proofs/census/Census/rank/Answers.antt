use Rattle.std.proofs.Common.{rules}
use Rattle.engine.proofs.Standings.{spot_of_tour}
use Rattle.engine.proofs.census.Census.rank.Goals as goal

pub returns-in_default-clause-rank : goal.returns-in_default-clause-rank
returns-in_default-clause-rank g c = search (rules, spot_of_tour)
