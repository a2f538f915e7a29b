use Rattle.oracle.proofs.HomeChain.{home_chain}
use Rattle.oracle.proofs.StepsHome.{steps_counted_home}
use Rattle.oracle.proofs.theory.home_stands.Goals as goal

pub returns : goal.returns
returns c = record { chain = home_chain; steps = steps_counted_home }
