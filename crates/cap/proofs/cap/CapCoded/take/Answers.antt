use Rattle.std.proofs.Common.{ℕ, replicate, sym, refl, arith}
use Rattle.std.proofs.lemmas.List.{length-replicate}
use Rattle.std.proofs.lemmas.Bool.{leb-false}
use Rattle.cap.proofs.Stepping.{high_take}
use Rattle.cap.proofs.cap.CapCoded.take.Goals as goal

pub returns : goal.returns
returns g c =
    let W = g.O.Walking in
    let told = c.in_ok-take.ensures in
    let back = c.take-2.ensures in
    let high = leb-false ((W.setup c.take.new.self).rank (W.current c.take.new.self)) _ (sym c.if-allows.ensures) in
    let p =
    high_take _ (W.setup c.args.self.now.below) (W.setup c.take.new.self)
    (W.setup c.take-2.new.self) (W.current c.args.self.now.below) c.args.row.now told.setup back.setup
    (W.lawful c.args.self.now.below c.requires.0) (W.stands c.args.self.now.below c.requires.0) c.requires.1
    (replicate 480 0) c.put.new.buffer c.put.result (omega (arith, length-replicate {A = ℕ} 480 0)) c.put.ensures
    c.in_ok-take.field-0 (W.current c.take.new.self) told.moved high
    c.size.result c.size.ensures c.take-2.result (W.current c.take-2.new.self) back.moved in
    record { sound = (back.sound, p.1); setup = rw (back.setup, told.setup) refl; moved = p.0; called = refl }
