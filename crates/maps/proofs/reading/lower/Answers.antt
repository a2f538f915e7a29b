use Rattle.maps.proofs.Tables.{lower_is}
use Rattle.maps.proofs.reading.lower.Goals as goal

pub returns-clause-value : goal.returns-clause-value
returns-clause-value c = lower_is c.args.row c.args.j c.requires
