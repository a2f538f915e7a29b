use Rattle.std.proofs.Common.{◌⊎◌, ◌+◌, ◌-◌, ◌≤◌, vec_items, subst, arith}
use Rattle.std.specs.Io.KnownBytes.{IsAtEnd}
use Rattle.sheets.specs.Reading.{most_bytes}
use Rattle.sheets.specs.Taking.{TakesUpTo}
use Rattle.sheets.proofs.Enough.{gained, taken_enough, taken_on, taken_reads}
use Rattle.sheets.proofs.input.sheet_bytes.Goals as goal

pub returns-in_err-read_more-clause-taken : goal.returns-in_err-read_more-clause-taken
returns-in_err-read_more-clause-taken g c =
    let bytes = c.reads.bytes in
    let left = g.R.Read.remaining in
    taken_on (left c.args.reader.now) (left c.reads.reader) (left c.read_more.new.reader) (vec_items bytes) (most_bytes + 1) c.reads.invariant.0 (omega (arith, bytes.ok.0, c.reads.invariant.1))
    (subst (λ n. TakesUpTo (most_bytes + 1 - n) (left c.reads.reader) (left c.read_more.new.reader)) bytes.ok.0 c.read_more.ensures.taken)

pub returns-then-not-branch-clause-bytes : goal.returns-then-not-branch-clause-bytes
returns-then-not-branch-clause-bytes g c =
    let bytes = c.read_more.new.bytes in
    let left = g.R.Read.remaining in
    let all = gained (left c.args.reader.now) (left c.reads.reader) (left c.read_more.new.reader) (vec_items c.reads.bytes) (vec_items bytes) c.reads.invariant.0 c.in_ok-read_more.ensures.gains in
    let stop = c.in_ok-read_more.ensures.end c.if-not-branch.true in
    taken_enough (left c.args.reader.now) (left c.read_more.new.reader) (vec_items bytes) all (omega (arith, bytes.ok.0, c.read_more.ensures.short))
    (subst (λ n. IsAtEnd (left c.read_more.new.reader) ⊎ (most_bytes + 1 ≤ n)) bytes.ok.0 stop)

pub returns-then-not-branch-clause-reading : goal.returns-then-not-branch-clause-reading
returns-then-not-branch-clause-reading g c =
    taken_reads (g.R.Read.remaining c.args.reader.now) (vec_items c.read_more.new.bytes) (returns-then-not-branch-clause-bytes g c)
