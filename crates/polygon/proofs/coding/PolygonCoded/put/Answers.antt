use Rattle.std.proofs.Common.{refl}
use Rattle.polygon.specs.Rows.{set_of}
use Rattle.polygon.proofs.Putting.{put_done}
use Rattle.polygon.proofs.coding.PolygonCoded.put.Goals as goal

pub returns : goal.returns
returns c =
    let p = c.args.self.now in
    put_done p.outline.n (set_of p.outline.n p.rows.0) c.code.result c.args.buffer.now
    (c.first_chunk_mut.ensures.variant.0 (rw c.in_ok-head.ensures.ok_part refl)) c.code.ensures
