use Rattle.std.proofs.Common.{rules}
use Rattle.sheets.proofs.fault.Fault.layer.Goals as goal

pub returns : goal.returns
returns c = search rules
