use Rattle.oracle.proofs.LeadsOn.{leads_on}
use Rattle.oracle.proofs.theory.places_stands.Goals as goal

pub returns : goal.returns
returns c = leads_on
