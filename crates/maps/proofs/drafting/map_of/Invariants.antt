use Rattle.std.proofs.Common.{◌≡◌, drop}
use Rattle.maps.specs.Touch.{after_pairs}
use Rattle.maps.specs.Views.{drafted}
use Rattle.maps.proofs.drafting.map_of.Given as goal

-- the pairs left give what all of them give from the start
abbrev pub invariant-loop-a : goal.invariant-loop-a
invariant-loop-a l = after_pairs (drafted l.draft) (drop l.a-index l.pairs) ≡ after_pairs (drafted l.initial.draft) l.pairs
