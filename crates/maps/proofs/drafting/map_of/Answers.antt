use Rattle.std.proofs.Common.{Ok, sym, ap, ◌∙◌, subst}
use Rattle.std.proofs.lemmas.Result.{err_from_is_err_and}
use Rattle.maps.specs.Touch.{Regions, Touching}
use Rattle.maps.specs.Views.{drafted}
use Rattle.maps.proofs.Tables.{run_refused, run_taken, run_done, run_meant}
use Rattle.maps.proofs.drafting.map_of.Goals as goal

pub returns-in_err-add-clause-value : goal.returns-in_err-add-clause-value
returns-in_err-add-clause-value c =
    let p = err_from_is_err_and c.from_residual-in_err-add.result c.from_residual-in_err-add.ensures.1 in
    rw (p.1, p.2)
    (run_refused c.args.n c.args.pairs.now (drafted c.in_ok-draft.draft) (drafted c.loop-a.draft) c.loop-a.a-index
    c.in_ok-draft.ensures c.loop-a.invariant (drafted c.add.new.self) _ c.loop-a-test.true c.in_err-add.ensures)

pub loop-a-preserved : goal.loop-a-preserved
loop-a-preserved c =
    run_taken c.args.n c.args.pairs.now (drafted c.in_ok-draft.draft) (drafted c.loop-a.draft) c.loop-a.a-index
    c.in_ok-draft.ensures c.loop-a.invariant (drafted c.add.new.self) _ c.loop-a-test.true c.in_ok-add.ensures

pub returns : goal.returns
returns c =
    record {
      value =
          ap Ok c.seal.ensures
          ∙ run_done c.args.n c.args.pairs.now (drafted c.in_ok-draft.draft) (drafted c.loop-a.draft) c.loop-a.a-index
          c.in_ok-draft.ensures c.loop-a.invariant c.loop-a-test.false;
      touching =
          subst (λ (m : Regions). Touching c.args.pairs.now m.rows) (sym c.seal.ensures)
          (run_meant c.args.n c.args.pairs.now (drafted c.in_ok-draft.draft) (drafted c.loop-a.draft) c.loop-a.a-index
          c.in_ok-draft.ensures c.loop-a.invariant c.loop-a-test.false);
    }
