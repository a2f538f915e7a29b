use Rattle.std.proofs.Common.{◌+◌, ◌≤◌, vec_items, vec_len}
use Rattle.std.specs.Io.KnownBytes.{Consumes}
use Rattle.sheets.proofs.input.sheet_bytes.Given as goal
use Rattle.sheets.specs.Reading.{most_bytes}

abbrev pub invariant-reads : goal.invariant-reads
invariant-reads g l =
    Consumes (g.R.Read.remaining l.initial.reader) (g.R.Read.remaining l.reader) (vec_items l.bytes)
    × (vec_len l.bytes ≤ most_bytes + 1)
