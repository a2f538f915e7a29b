use Rattle.std.proofs.Common.{rules}
use Rattle.cap.proofs.cap.CapCoded.put.Goals as goal

pub returns : goal.returns
returns g c = search rules
