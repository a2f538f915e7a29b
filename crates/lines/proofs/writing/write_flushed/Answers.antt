use Rattle.lines.proofs.Fronts.{kept_written}
use Rattle.lines.proofs.writing.write_flushed.Goals as goal

pub returns : goal.returns
returns g c =
    let held = g.W.Write.contents in
    kept_written (held c.args.writer.now) (held c.write_whole.new.writer) (held c.flush.new.self) c.flush.result c.args.bytes.now c.in_ok-write_whole.ensures c.flush.ensures.bytes
