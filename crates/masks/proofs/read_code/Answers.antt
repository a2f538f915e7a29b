use Rattle.std.proofs.Common.{length, sym, ap, arith}
use Rattle.masks.proofs.Codes.{read_eight}
use Rattle.masks.proofs.read_code.Goals as goal

pub returns : goal.returns
returns c =
    let chunk = c.in_ok-code.ensures.cases in
    rw (sym chunk.same) (read_eight c.in_ok-code.code.now c.from_le_bytes.result (omega (arith, ap length chunk.same, chunk.long)) (λ i. rw chunk.same (c.type_inv.row i).fits) c.from_le_bytes.ensures)
