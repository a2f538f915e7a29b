-- The walk from an object to the next one of the list, with its steps.
use Rattle.std.specs.Prelude.{ℕ, zero, suc, ◌+◌, ◌-◌}
use Rattle.oracle.specs.Setup.{Code, Setup, Slot, vacant, filled}
use Rattle.oracle.specs.Home.{homeward}
use Rattle.oracle.specs.Sight.{Sight, nothing, other, child, seen}

-- Where one stands: on an object, or past the end of the list.
pub data Spot : Type 0 where
  on : Code → Spot
  past : Spot

pub record Walked : Type 0 where
  pub stop : Spot
  pub steps : ℕ

abbrev pub ended : Walked
ended = record { stop = past; steps = 0 }

abbrev pub reached : Code → Walked
reached w = record { stop = on w; steps = 1 }

-- n steps made before the rest of a walk
abbrev pub after : ℕ → Walked → Walked
after n rest = record { stop = rest.stop; steps = n + rest.steps }

-- What comes of one slot: a child ends the walk; otherwise one step finds the slot vacant, or two go
-- out and back, and the walk goes on.
unfoldable pub passing : Sight → Walked → Walked
passing nothing rest = after 1 rest
passing other rest = after 2 rest
passing (child w) rest = reached w

-- n slots of v from slot j on, and then the rest
unfoldable pub scan : Setup → Code → ℕ → ℕ → Walked → Walked
scan s v j zero rest = rest
scan s v j (suc n) rest = passing (seen s v j) (scan s v (j + 1) n rest)

-- the slots of v from slot j on, and then the rest
abbrev pub scan_from : Setup → Code → ℕ → Walked → Walked
scan_from s v j rest = scan s v j (s.width - j) rest

-- the rest of a walk after stepping into this slot, if it is filled
unfoldable pub onward : Slot → (Code → ℕ → Walked) → Walked
onward vacant next = ended
onward (filled u i) next = after 1 (next u i)

-- With no slot of v left: one step home, and on from the slot after the one that v was reached by; at
-- the root the walk has ended. Each rise lowers the rank, so that the rank bounds how many there are.
unfoldable pub rise : ℕ → Setup → Code → Walked
rise zero s v = ended
rise (suc more) s v = onward (homeward s v) (λ u i. scan_from s u (i + 1) (rise more s u))

-- The rest of the walk, from slot j of v on; from the width on there is no slot, and it rises.
unfoldable pub walk_from : Setup → Code → ℕ → Walked
walk_from s v j = scan_from s v j (rise (s.rank v) s v)

abbrev pub walk : Setup → Code → Walked
walk s v = walk_from s v 0
