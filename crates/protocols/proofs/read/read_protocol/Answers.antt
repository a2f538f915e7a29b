use Rattle.std.proofs.Common.{◌≡◌, ◌+◌, map, length, vec_items, vec_len, Some, None, Err, sym, ap, ◌∙◌, rules, arith}
use Rattle.std.proofs.lemmas.Bool.{eqb-true, eqb-false}
use Rattle.std.proofs.lemmas.Result.{err_from_is_err_and}
use Rattle.engine.specs.Runs.{order_of}
use Rattle.protocols.specs.Reading.{request_at}
use Rattle.protocols.specs.declared.error.ProtocolError.TheVariants.{Unreadable}
use Rattle.protocols.specs.Views.{request_of}
use Rattle.protocols.proofs.Turns.{out_behind, read_on, turn_first, turn_pushed, turn_bad, turn_end, turn_cut, turn_less}
use Rattle.protocols.proofs.Whole.{accepting_as, refusing_as}
use Rattle.protocols.proofs.read.read_protocol.Goals as goal

pub loop-line-init : goal.loop-line-init
loop-line-init c = (
  ap (λ n. read_on (map order_of (vec_items c.new-calls.result)) (n + 1) c.args.bytes.now) c.new-calls.ensures.len
      ∙ turn_first (vec_items c.new-calls.result) c.args.bytes.now c.new-calls.ensures.items,
  omega arith,
)

pub returns-in_err-request : goal.returns-in_err-request
returns-in_err-request c =
    let p = err_from_is_err_and c.from_residual.result c.from_residual.ensures.1 in
    let none : request_at c.in-Some.line.now ≡ None = search rules in
    let error : c.in_err-request.field-0.0 ≡ Unreadable (c.len.result + 1) = search rules in
    let value =
    ap (λ n. Err (n + 1)) c.len.ensures
    ∙ turn_bad (map order_of (vec_items c.loop-line.calls)) (vec_len c.loop-line.calls + 1) c.loop-line.rest.now
    c.in-Some.line.now c.in-Some.behind.now (sym c.in-Some.ensures) none
    ∙ c.loop-line.invariant.0 in
    rw (p.1, p.2, error)
    (record { value = value; accepting = accepting_as c.args.bytes.now _ value; refusing = refusing_as c.args.bytes.now _ value; memory = tt })

pub returns-in_err-call-clause-memory : goal.returns-in_err-call-clause-memory
returns-in_err-call-clause-memory c =
    let good : request_at c.in-Some.line.now ≡ Some (request_of c.in_ok-request.request) = search rules in
    out_behind c.from_residual-in_err-call.result c.args.bytes.now (map order_of (vec_items c.loop-line.calls)) (vec_len c.loop-line.calls) c.loop-line.rest.now
    c.in-Some.line.now c.in-Some.behind.now (request_of c.in_ok-request.request) (sym c.in-Some.ensures) good c.loop-line.invariant.0

pub returns-in_err-push-clause-memory : goal.returns-in_err-push-clause-memory
returns-in_err-push-clause-memory c =
    let good : request_at c.in-Some.line.now ≡ Some (request_of c.in_ok-request.request) = search rules in
    out_behind c.from_residual-in_err-push.result c.args.bytes.now (map order_of (vec_items c.loop-line.calls)) (vec_len c.loop-line.calls) c.loop-line.rest.now
    c.in-Some.line.now c.in-Some.behind.now (request_of c.in_ok-request.request) (sym c.in-Some.ensures) good c.loop-line.invariant.0

pub loop-line-smaller : goal.loop-line-smaller
loop-line-smaller c =
    let good : request_at c.in-Some.line.now ≡ Some (request_of c.in_ok-request.request) = search rules in
    let less =
    turn_less c.loop-line.rest.now c.in-Some.line.now c.in-Some.behind.now (request_of c.in_ok-request.request)
    (sym c.in-Some.ensures) good in
    omega arith

pub loop-line-preserved : goal.loop-line-preserved
loop-line-preserved c =
    let good : request_at c.in-Some.line.now ≡ Some (request_of c.in_ok-request.request) = search rules in
    let less =
    turn_less c.loop-line.rest.now c.in-Some.line.now c.in-Some.behind.now (request_of c.in_ok-request.request)
    (sym c.in-Some.ensures) good in
    let more : vec_len c.push.new.self + 1 ≡ vec_len c.loop-line.calls + 1 + 1 = omega (arith, c.in_ok-push.ensures.len) in (
      ap (λ n. read_on (map order_of (vec_items c.push.new.self)) n c.in-Some.behind.now) more
          ∙ turn_pushed (vec_items c.loop-line.calls) (vec_items c.push.new.self) c.in_ok-call.call (vec_len c.loop-line.calls + 1)
          c.loop-line.rest.now c.in-Some.line.now c.in-Some.behind.now (request_of c.in_ok-request.request)
          c.in_ok-push.ensures.items c.in_ok-call.ensures.call.0 (sym c.in-Some.ensures)
          good
          ∙ c.loop-line.invariant.0,
      omega (arith, c.in_ok-push.ensures.len, c.loop-line.invariant.1),
    )

pub returns-then-not-is_empty : goal.returns-then-not-is_empty
returns-then-not-is_empty c =
    let some = eqb-false (length c.loop-line.rest.now) 0 (sym c.if-not-is_empty.ensures) in
    let value =
    ap (λ n. Err (n + 1)) c.len-then-not-is_empty.ensures
    ∙ turn_cut (map order_of (vec_items c.loop-line.calls)) (vec_len c.loop-line.calls + 1) c.loop-line.rest.now
    (sym c.in_default.ensures) (omega (arith, some))
    ∙ c.loop-line.invariant.0 in
    record { value = value; accepting = accepting_as c.args.bytes.now _ value; refusing = refusing_as c.args.bytes.now _ value; memory = tt }

pub returns : goal.returns
returns c =
    let none = eqb-true (length c.loop-line.rest.now) 0 (sym c.if-not-is_empty.ensures) in
    let value =
    turn_end (map order_of (vec_items c.loop-line.calls)) (vec_len c.loop-line.calls + 1) c.loop-line.rest.now
    (sym c.in_default.ensures) none
    ∙ c.loop-line.invariant.0 in
    record { value = value; accepting = accepting_as c.args.bytes.now _ value; refusing = refusing_as c.args.bytes.now _ value; memory = tt }
