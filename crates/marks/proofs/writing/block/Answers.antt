use Rattle.std.proofs.Common.{◌++◌, length, ap, ◌∙◌, ap₂, arith}
use Rattle.marks.proofs.Writes.{put_zeros, behind, checked, stamped}
use Rattle.marks.proofs.RoundTrip.{padded_length}
use Rattle.marks.proofs.writing.block.Goals as goal
use Rattle.marks.specs.Bytes.{four_bytes}
use Rattle.marks.specs.Layout.{check, sealed}

pub returns : goal.returns
returns g c =
    let s = g.O.Walking.setup c.args.oracle.now in
    let v = g.O.Walking.current c.args.oracle.now in
    let law = g.O.Walking.lawful c.args.oracle.now c.requires in
    let front = c.copy_from_slice.new.self in
    let code = c.put.new.buffer in
    let stamp = c.copy_from_slice-2.new.self in
    let headed = c.copy_from_slice.ensures.after ∙ c.head.ensures in
    let m = ap length headed in
    let padded = put_zeros s v _ code c.put.result c.put.ensures (behind front m) (omega (arith, law.size_limit)) in
    let n = ap length padded ∙ padded_length s law v (g.O.Walking.stands c.args.oracle.now c.requires) in
    let body = ap₂ ◌++◌ headed padded in
    stamped front code stamp m n
    ∙ ap ((front ++ code) ++◌)
    (c.copy_from_slice-2.ensures.after ∙ c.to_le_bytes.ensures ∙ ap four_bytes (c.check_of-sum.ensures ∙ ap check (checked front code stamp m n)))
    ∙ ap sealed body
