use Rattle.std.proofs.Common.{◌≡◌, ◌+◌, ◌≤◌, length}
use Rattle.sheets.specs.Cut.{cut}
use Rattle.sheets.specs.Reading.{read_from}
use Rattle.sheets.specs.Settings.{unset}
use Rattle.sheets.specs.Views.{state_of}
use Rattle.sheets.proofs.read.read_lines.Given as goal

-- what is left, read on from here, gives what the whole sheet gives
abbrev pub invariant-loop-n : goal.invariant-loop-n
invariant-loop-n l =
    (read_from l.line (state_of l.state) (cut l.rest).lines (cut l.rest).rest
    ≡ read_from 1 unset (cut l.bytes).lines (cut l.bytes).rest)
    × (l.line + length l.rest ≤ 65537)

abbrev pub decreases-loop-n : goal.decreases-loop-n
decreases-loop-n l = length l.rest
