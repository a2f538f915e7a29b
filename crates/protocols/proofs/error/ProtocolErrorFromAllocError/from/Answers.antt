use Rattle.std.proofs.Common.{rules}
use Rattle.protocols.proofs.error.ProtocolErrorFromAllocError.from.Goals as goal

pub returns : goal.returns
returns c = search rules
