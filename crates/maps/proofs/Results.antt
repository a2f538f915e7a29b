-- Answers that are Ok or Err: taken apart, and told apart.
use Rattle.std.proofs.Common.{◌≡◌, Ok, Err, Result}

pub same_ok : {X E : Type 0} (x y : X) → ◌≡◌ {A = Result X E} (Ok x) (Ok y) → x ≡ y
same_ok x y e = cc

-- what is granted is not refused: anything follows
pub clash : {X E Y : Type 0} (x : X) (k : E) → ◌≡◌ {A = Result X E} (Err k) (Ok x) → Y
clash x k e = cc
