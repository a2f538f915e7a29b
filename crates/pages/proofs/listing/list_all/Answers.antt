use Rattle.std.proofs.Common.{◌+◌, ◌≤◌, vec_items, vec_len, vec_capacity, subst, sym}
use Rattle.pages.specs.Left.{left}
use Rattle.pages.specs.Lines.{rest_room}
use Rattle.pages.specs.Turns.{Listed}
use Rattle.pages.proofs.listing.list_all.Goals as goal

pub returns-clause-listed : goal.returns-clause-listed
returns-clause-listed g c =
    subst (λ ls. Listed (vec_items c.args.out.now) ls c.list_rest.result (vec_items c.list_rest.new.out)) c.new.ensures.lines c.list_rest.ensures.listed

pub returns-clause-succeeds : goal.returns-clause-succeeds
returns-clause-succeeds g c =
    let W = g.O.Walking in
    let out = c.args.out.now in
    λ room.
    let same_lines = subst (λ ls. vec_len out + rest_room (W.setup c.args.oracle) ls ≤ vec_capacity out) (sym c.new.ensures.lines) room in
    c.list_rest.ensures.succeeds (subst (λ s. vec_len out + rest_room s (left W.setup c.new.result) ≤ vec_capacity out) (sym c.new.ensures.setup) same_lines)
