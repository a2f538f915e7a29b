use Rattle.std.proofs.Common.{◌≡◌, ◌-◌, take, Ok, Err, ◌∙◌, rules, arith}
use Rattle.std.proofs.lemmas.Result.{err_from_is_err_and}
use Rattle.maps.specs.Views.{through}
use Rattle.sheets.specs.Reading.{after_bytes, at_end, faulted}
use Rattle.sheets.specs.Views.{plan_of, state_of}
use Rattle.sheets.proofs.Turns.{turn_on, turn_fault, turn_less, turn_end}
use Rattle.sheets.proofs.read.read_lines.Goals as goal

pub returns-in_err-state : goal.returns-in_err-state
returns-in_err-state c =
    let p = err_from_is_err_and c.from_residual.result c.from_residual.ensures.1 in
    let told : Err c.in_err-state.field-0.0 ≡ after_bytes (state_of c.loop-n.state) (take (c.in-Some.n - 0) c.loop-n.rest.now) c.loop-n.line = search rules in
    rw (p.1, p.2)
    (turn_fault c.loop-n.line (state_of c.loop-n.state) c.loop-n.rest.now _ c.loop-n.invariant.0 c.in-Some.n
    c.in-Some.ensures c.in_err-state.field-0.0 told)

pub loop-n-preserved : goal.loop-n-preserved
loop-n-preserved c =
    let less = turn_less c.loop-n.line (state_of c.loop-n.state) c.loop-n.rest.now _ c.loop-n.invariant.0 c.in-Some.n
    c.in-Some.ensures in
    let told : Ok (state_of c.in_ok-state.state) ≡ after_bytes (state_of c.loop-n.state) (take (c.in-Some.n - 0) c.loop-n.rest.now) c.loop-n.line = search rules in (
      turn_on c.loop-n.line (state_of c.loop-n.state) c.loop-n.rest.now _ c.loop-n.invariant.0 c.in-Some.n
          c.in-Some.ensures (state_of c.in_ok-state.state) told,
      omega arith,
    )

pub returns : goal.returns
returns c =
    let told : through plan_of c.map_err.result ≡ faulted (at_end (state_of c.loop-n.state) c.loop-n.rest.now) c.loop-n.line = search rules in
    told
    ∙ turn_end c.loop-n.line (state_of c.loop-n.state) c.loop-n.rest.now _ c.loop-n.invariant.0 c.in_default.ensures
