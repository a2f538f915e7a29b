use Rattle.protocols.proofs.Parting.{parted_missing, parted_slices}
use Rattle.protocols.proofs.words.part.Goals as goal

pub returns-in_err-n : goal.returns-in_err-n
returns-in_err-n c = rw c.from_residual.ensures (parted_missing c.args.byte c.args.bytes.now c.in_err-n.ensures)

pub returns : goal.returns
returns c = parted_slices c.args.byte c.in_ok-n.n c.args.bytes.now c.in_ok-n.ensures
