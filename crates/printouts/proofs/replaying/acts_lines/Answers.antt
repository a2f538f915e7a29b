use Rattle.std.proofs.Common.{◌≡◌, ℕ, true, false, map, is_ok, refl, sym, ap, ◌∙◌, rules, arith}
use Rattle.protocols.specs.Reading.{ordered}
use Rattle.protocols.specs.Requests.{order_for}
use Rattle.protocols.specs.Views.{request_of}
use Rattle.protocols.proofs.Firsts.{shorter}
use Rattle.protocols.proofs.Whole.{asks}
use Rattle.printouts.proofs.Carrying.{carrying_end, carrying_first, carrying_on, carrying_room, carrying_short}
use Rattle.printouts.proofs.replaying.acts_lines.Goals as goal
use Rattle.printouts.specs.Printed.{lines_behind, protocol_lines, run_lines}

pub loop-request-init : goal.loop-request-init
loop-request-init g c =
    let W = g.O.Walking in
    let s = W.setup c.args.oracle in
    let qs = c.requires.readable.0 in
    carrying_first g.row.O.Denot W s (protocol_lines s c.args.acts.now) c.new-census.result c.args.acts.now c.args.out.now c.args.out.now qs
    c.new-census.ensures.setup c.requires.readable.1
    (ap (λ v. lines_behind s v (map order_for qs)) c.new-census.ensures.begun
    ∙ sym (ap (λ x. run_lines s (ordered x)) ((asks c.args.acts.now qs).1 c.requires.readable.1)))
    refl (omega arith)

pub request_line-requires : goal.request_line-requires
request_line-requires g c = ((c.in-Some.ensures (request_of c.in-Some.request) c.in-Some.behind.now).0 refl).0

pub returns-in_err-request_line-clause-listed : goal.returns-in_err-request_line-clause-listed
returns-in_err-request_line-clause-listed g c =
    let W = g.O.Walking in
    let s = W.setup c.args.oracle in
    let l = c.loop-request in
    let no : is_ok c.request_line.result ≡ false = search rules in
    carrying_short g.row.O.Denot W s (protocol_lines s c.args.acts.now) l.census l.rest.now c.args.out.now l.out
    (request_of c.in-Some.request) c.in-Some.behind.now c.request_line.new.census c.request_line.new.out c.request_line.result
    l.invariant c.in-Some.ensures c.request_line.ensures c.from_residual.result no c.from_residual.ensures.0

pub returns-in_err-request_line-clause-succeeds : goal.returns-in_err-request_line-clause-succeeds
returns-in_err-request_line-clause-succeeds g c enough =
    let W = g.O.Walking in
    let s = W.setup c.args.oracle in
    let l = c.loop-request in
    let no : is_ok c.request_line.result ≡ false = search rules in
    let ok = carrying_room g.row.O.Denot W s (protocol_lines s c.args.acts.now) l.census l.rest.now c.args.out.now l.out
    (request_of c.in-Some.request) c.in-Some.behind.now c.request_line.new.census c.request_line.new.out c.request_line.result
    l.invariant c.in-Some.ensures c.request_line.ensures enough in
    let both : true ≡ false = sym ok ∙ no in
    let z : ◌≡◌ {A = ℕ} 0 1 = cc in
    absurd (omega arith)

pub loop-request-smaller : goal.loop-request-smaller
loop-request-smaller g c =
    let less = shorter c.loop-request.rest.now (request_of c.in-Some.request) c.in-Some.behind.now c.in-Some.ensures in
    omega arith

pub loop-request-preserved : goal.loop-request-preserved
loop-request-preserved g c =
    let W = g.O.Walking in
    let s = W.setup c.args.oracle in
    let l = c.loop-request in
    let ok : is_ok c.request_line.result ≡ true = search rules in
    carrying_on g.row.O.Denot W s (protocol_lines s c.args.acts.now) l.census l.rest.now c.args.out.now l.out
    (request_of c.in-Some.request) c.in-Some.behind.now c.request_line.new.census c.request_line.new.out c.request_line.result
    l.invariant c.in-Some.ensures c.request_line.ensures ok

pub returns-clause-listed : goal.returns-clause-listed
returns-clause-listed g c =
    let W = g.O.Walking in
    let s = W.setup c.args.oracle in
    let l = c.loop-request in
    carrying_end g.row.O.Denot W s (protocol_lines s c.args.acts.now) l.census l.rest.now c.args.out.now l.out l.invariant c.in_default.ensures
