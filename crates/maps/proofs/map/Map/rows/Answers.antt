use Rattle.std.proofs.Common.{rules}
use Rattle.maps.proofs.map.Map.rows.Goals as goal

pub returns : goal.returns
returns c = search rules
