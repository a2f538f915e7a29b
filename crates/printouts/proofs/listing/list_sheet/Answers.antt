use Rattle.std.proofs.Common.{◌+◌, ◌≤◌, vec_items, vec_len, vec_capacity, subst, sym}
use Rattle.pages.specs.Turns.{Listed}
use Rattle.printouts.proofs.listing.list_sheet.Goals as goal
use Rattle.printouts.specs.Printed.{room_of_all}

pub returns-clause-listed : goal.returns-clause-listed
returns-clause-listed c =
    subst (λ lines. Listed (vec_items c.args.out.now) lines c.list_pages.result (vec_items c.list_pages.new.out)) c.of_sheet.ensures.lines c.list_pages.ensures.listed

pub returns-clause-succeeds : goal.returns-clause-succeeds
returns-clause-succeeds c = λ room.
    let out = c.args.out.now in
    c.list_pages.ensures.succeeds (subst (λ lines. vec_len out + room_of_all lines ≤ vec_capacity out) (sym c.of_sheet.ensures.lines) room)
