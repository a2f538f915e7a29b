use Rattle.std.proofs.Common.{map, get_or, refl, ap, ◌∙◌, ap₂, arith}
use Rattle.std.proofs.lemmas.List.{with_items_is}
use Rattle.oracle.proofs.Complete.{complete, numbered}
use Rattle.oracle.proofs.Ticks.{ticks_more}
use Rattle.oracle.specs.Home.{steps_home}
use Rattle.oracle.specs.Outcomes.{ticks}
use Rattle.engine.proofs.Sequences.{one_more, all_done, one_more_called, all_called}
use Rattle.engine.proofs.Refused.{refusals_change_nothing}
use Rattle.engine.proofs.RunCounts.{run_counted, run_since}
use Rattle.engine.proofs.WholeSteps.{whole_calls}
use Rattle.engine.proofs.run.run.Goals as goal
use Rattle.engine.specs.Acts.{plain_act}
use Rattle.engine.specs.Runs.{order_of, entry_of, plain_run}
use Rattle.engine.specs.Steps.{act_steps, acts_steps}
use Rattle.engine.specs.View.{begun}

pub loop-call-preserved : goal.loop-call-preserved
loop-call-preserved g c =
    let W = g.O.Walking in
    let s = W.setup c.new-census.result.oracle in
    let v = c.loop-call.census.view in
    let after = c.perform-call.new.self.view in
    let calls = c.loop-call.calls in
    let i = c.loop-call.call-index in
    let call = get_or calls i c.call-item.result in
    let performed =
    c.perform-call.ensures.performed
    ∙ ap₂ (λ n b. plain_act n v call.act b) c.loop-call.invariant.setup_same c.as_mut_slice.ensures.value in
    record {
      setup_same = c.perform-call.ensures.setup ∙ c.loop-call.invariant.setup_same;
      in_step =
          one_more s v after calls i c.call-item.result _ (omega arith) refl c.tally-call.ensures
          (ap (λ b. (c.perform-call.result, b, after)) (with_items_is call.bytes c.perform-call.new.buffer (c.perform-call.auto.buffer ∙ c.as_mut_slice.ensures.len))
          ∙ performed)
          ∙ c.loop-call.invariant.in_step;
      called =
          one_more_called W.tick s v after calls i c.call-item.result _ (W.calls c.loop-call.census.oracle) _ (omega arith) (ap (λ r. r.2) performed)
          (c.perform-call.ensures.called
          ∙ ap (λ n. ticks W.tick (act_steps n v call.act) (W.calls c.loop-call.census.oracle)) c.loop-call.invariant.setup_same)
          ∙ c.loop-call.invariant.called;
    }

pub returns : goal.returns
returns g c =
    let W = g.O.Walking in
    let s = W.setup c.args.oracle in
    let v = c.loop-call.census.view in
    let asked = map order_of c.args.calls.now in
    let stepped =
    all_done (W.setup c.new-census.result.oracle) v c.loop-call.calls c.loop-call.call-index (omega arith)
    ∙ c.loop-call.invariant.in_step
    ∙ ap₂ (λ n w. plain_run n w asked) c.new-census.ensures.setup c.new-census.ensures.begun in
    record {
      setup = c.loop-call.invariant.setup_same ∙ c.new-census.ensures.setup;
      complete = complete s (W.lawful c.args.oracle c.requires);
      numbered = numbered s (W.lawful c.args.oracle c.requires);
      in_step = stepped;
      counted = run_counted s (W.lawful c.args.oracle c.requires) asked (map entry_of c.loop-call.calls) (ap (λ r. r.0) stepped);
      since = run_since s (W.lawful c.args.oracle c.requires) asked (map entry_of c.loop-call.calls) (ap (λ r. r.0) stepped);
      called =
          all_called W.tick (W.setup c.new-census.result.oracle) v c.loop-call.calls c.loop-call.call-index (W.calls c.loop-call.census.oracle) (omega arith)
          ∙ c.loop-call.invariant.called
          ∙ ap₂ (λ n w. ticks W.tick (acts_steps n w asked) (W.calls c.new-census.result.oracle)) c.new-census.ensures.setup c.new-census.ensures.begun
          ∙ ap (ticks W.tick (acts_steps s (begun s) asked)) c.new-census.ensures.called
          ∙ ticks_more W.tick (steps_home s (W.current c.args.oracle)) (acts_steps s (begun s) asked) (W.calls c.args.oracle);
      refused = refusals_change_nothing s;
      whole_calls = whole_calls s (W.lawful c.args.oracle c.requires);
    }
