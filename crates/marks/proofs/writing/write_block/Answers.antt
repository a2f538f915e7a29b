use Rattle.std.proofs.Common.{ltb, length, refl, ap, ◌∙◌, arith}
use Rattle.marks.proofs.RoundTrip.{round_trip}
use Rattle.marks.proofs.Told.{laid}
use Rattle.marks.proofs.Writes.{fronted}
use Rattle.marks.proofs.writing.write_block.Goals as goal
use Rattle.marks.specs.Layout.{placed}

pub returns-in_err-front-clause-opens : goal.returns-in_err-front-clause-opens
returns-in_err-front-clause-opens g c =
    let W = g.O.Walking in
    let o = c.args.oracle.now in
    round_trip (W.setup o) (W.lawful o c.requires) (W.current o) (W.stands o c.requires) c.args.job (omega arith)

pub returns-clause-written : goal.returns-clause-written
returns-clause-written g c =
    let buffer = c.args.buffer.now in
    fronted c.block.result buffer (c.first_chunk_mut.ensures.variant.0 (rw c.in_ok-front.ensures.ok_part refl))
    ∙ ap (λ row. placed (ltb (length buffer) 512) row buffer) c.block.ensures

pub returns-clause-opens : goal.returns-clause-opens
returns-clause-opens g c =
    let W = g.O.Walking in
    let o = c.args.oracle.now in
    round_trip (W.setup o) (W.lawful o c.requires) (W.current o) (W.stands o c.requires) c.args.job (omega arith)

pub returns-in_err-front-clause-laid : goal.returns-in_err-front-clause-laid
returns-in_err-front-clause-laid g c =
    let W = g.O.Walking in
    let o = c.args.oracle.now in
    laid (W.setup o) (W.lawful o c.requires) (W.current o) (W.stands o c.requires) c.args.job (omega arith)

pub returns-clause-laid : goal.returns-clause-laid
returns-clause-laid g c =
    let W = g.O.Walking in
    let o = c.args.oracle.now in
    laid (W.setup o) (W.lawful o c.requires) (W.current o) (W.stands o c.requires) c.args.job (omega arith)
