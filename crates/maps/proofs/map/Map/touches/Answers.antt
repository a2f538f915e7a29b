use Rattle.std.proofs.Common.{rules}
use Rattle.maps.proofs.map.Map.touches.Goals as goal

pub returns-then-a-lt64 : goal.returns-then-a-lt64
returns-then-a-lt64 c = search rules
