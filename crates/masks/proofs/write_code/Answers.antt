use Rattle.std.proofs.Common.{sym, refl, ◌∙◌}
use Rattle.masks.proofs.Codes.{write_eight, written_eight}
use Rattle.masks.proofs.write_code.Goals as goal

pub returns : goal.returns
returns c =
    written_eight c.args.set c.args.buffer.now c.to_le_bytes.result
    (c.first_chunk_mut.ensures.variant.0 (rw c.in_ok-front.ensures.ok_part refl))
    (c.to_le_bytes.ensures ∙ sym (write_eight c.args.set))
