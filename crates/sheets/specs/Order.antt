-- The order of the kinds of lines: the subject, pairs, at most one cap, the full stop.
use Rattle.std.specs.Prelude.{ℕ, Bool, false, ◌&&◌, ◌||◌, Some, None, Option, ◌==◌, nat_lt}
use Rattle.items.specs.declared.line.Kind.{Kind}
use Rattle.items.specs.declared.line.Kind.TheVariants.{Regions, Polygon, Pair, Cap, Stop}
use Rattle.sheets.specs.declared.stage.Stage.{Stage}
use Rattle.sheets.specs.declared.stage.Stage.TheVariants as stages

-- the stage of a sheet at which a kind of line stands
abbrev pub stage : Kind → ℕ
stage Regions = 0
stage Polygon = 0
stage Pair = 1
stage Cap = 2
stage Stop = 3

abbrev pub stage_number : Stage → ℕ
stage_number stages.Subject = 0
stage_number stages.Pairs = 1
stage_number stages.Cap = 2
stage_number stages.Stop = 3

-- whether a kind may come after that of the line before: stages ascend, and only pairs repeat
abbrev pub follows : Option Kind → Kind → Bool
follows None k = stage k == 0
follows (Some j) k = nat_lt (stage j) (stage k) || (stage j == 1 && stage k == 1)

-- whether the line before is the full stop
abbrev pub stopped : Option Kind → Bool
stopped None = false
stopped (Some j) = stage j == 3
