use Rattle.std.proofs.Common.{Ok, sym, refl, ap, ◌∙◌}
use Rattle.std.proofs.lemmas.Bool.{leb-true, leb-false}
use Rattle.cap.proofs.Stepping.{step_vacant, low_step, high_step}
use Rattle.cap.proofs.cap.CapWalking.step.Goals as goal

pub returns-in_default-clause-moved : goal.returns-in_default-clause-moved
returns-in_default-clause-moved g c =
    let W = g.O.Walking in
    (step_vacant _ (W.setup c.args.self.now.below) (W.current c.args.self.now.below) c.args.slot
    (W.current c.step.new.self) (ap (λ r. (Ok r, W.current c.step.new.self)) (sym c.in_default.is) ∙ c.in_ok-back.ensures.moved)
    ).0

pub returns-then-allows-clause-moved : goal.returns-then-allows-clause-moved
returns-then-allows-clause-moved g c =
    let W = g.O.Walking in
    let told = c.in_ok-back.ensures in
    low_step _ (W.setup c.args.self.now.below) (W.setup c.step.new.self) (W.current c.args.self.now.below)
    c.args.slot told.setup c.in-Some.back (W.current c.step.new.self)
    (ap (λ r. (Ok r, W.current c.step.new.self)) (sym c.in-Some.is) ∙ told.moved)
    (leb-true ((W.setup c.step.new.self).rank (W.current c.step.new.self)) _ (sym c.if-allows.ensures))

pub returns : goal.returns
returns g c =
    let W = g.O.Walking in
    let told = c.in_ok-back.ensures in
    let back = c.step-2.ensures in
    let high = leb-false ((W.setup c.step.new.self).rank (W.current c.step.new.self)) _ (sym c.if-allows.ensures) in
    let p =
    high_step _ (W.setup c.args.self.now.below) (W.setup c.step.new.self)
    (W.current c.args.self.now.below) c.args.slot told.setup (W.setup c.step-2.new.self) back.setup
    (W.lawful c.args.self.now.below c.requires.0) (W.stands c.args.self.now.below c.requires.0) c.requires.1
    c.in-Some.back (W.current c.step.new.self) (ap (λ r. (Ok r, W.current c.step.new.self)) (sym c.in-Some.is) ∙ told.moved) high
    c.step-2.result (W.current c.step-2.new.self) back.moved in
    record { sound = (back.sound, p.1); setup = rw (back.setup, told.setup) refl; moved = p.0; called = refl }
