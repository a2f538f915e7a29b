use Rattle.std.proofs.Common.{rules}
use Rattle.lines.proofs.hex_line.Goals as goal

pub push_reserved-requires : goal.push_reserved-requires
push_reserved-requires c = search rules
