use Rattle.std.proofs.Common.{rules, sym, ◌∙◌}
use Rattle.oracle.proofs.Homing.{goes_on, ends_at, all_called}
use Rattle.oracle.proofs.home.go_home.Goals as goal

pub loop-up-init : goal.loop-up-init
loop-up-init g c = search rules

pub loop-up-preserved : goal.loop-up-preserved
loop-up-preserved g c =
    goes_on c.loop-up.invariant c.step.new.self c.in-Some.up c.step.result
    (sym c.home.ensures ∙ c.in-Some.is)
    c.step.ensures.sound
    c.step.ensures.setup
    c.step.ensures.moved
    c.step.ensures.called

pub returns-clause-root : goal.returns-clause-root
returns-clause-root g c = ends_at c.loop-up.invariant (sym c.home.ensures ∙ c.in_default.is)

pub returns-clause-called : goal.returns-clause-called
returns-clause-called g c = all_called c.loop-up.invariant (sym c.home.ensures ∙ c.in_default.is)
