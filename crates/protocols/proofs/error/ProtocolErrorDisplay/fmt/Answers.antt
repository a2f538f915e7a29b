use Rattle.std.proofs.Common.{rules}
use Rattle.protocols.proofs.error.ProtocolErrorDisplay.fmt.Goals as goal

pub returns-in-Unreadable-clause-writes : goal.returns-in-Unreadable-clause-writes
returns-in-Unreadable-clause-writes g c = search rules
