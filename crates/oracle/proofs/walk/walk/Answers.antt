use Rattle.std.proofs.Common.{refl, sym, ◌∙◌, arith}
use Rattle.oracle.proofs.Turns.{begins, scanned, scan_below, scan_over, scan_vacant, scan_other, ends_at_child, ends_at_root, rise_on, ended_next}
use Rattle.oracle.proofs.walk.walk.Goals as goal
use Rattle.oracle.proofs.walk.walk.Goals.{in-Some+else-leads_home, in_default}

-- one slot further, the same object is current
pub scan-preserved : goal.scan-preserved
scan-preserved g c =
    elim c.match-cross.branch [
      | in-Some+else-leads_home w ↦
          scan_other c.scan.invariant
          (scan_below (scanned c.rising.invariant c.scan.invariant) c.width-width.ensures (omega (arith, c.scan-test.true)))
          (record { sound_now = c.cross.ensures.sound; setup_same = c.cross.ensures.setup; crossed = c.cross.ensures.crossed; called = c.cross.ensures.called })
          w.in-Some.is
          (sym w.leads_home.ensures ∙ w.if-leads_home.false)
          (record { sound_now = w.cross-in-Some.ensures.sound; setup_same = w.cross-in-Some.ensures.setup; crossed = w.cross-in-Some.ensures.crossed; called = w.cross-in-Some.ensures.called })
          w.oracle-is
          (omega (arith, w.steps-is, w.cross-in-Some.ensures.counted, c.cross.ensures.counted))
      | in_default w ↦
          scan_vacant c.scan.invariant
          (scan_below (scanned c.rising.invariant c.scan.invariant) c.width-width.ensures (omega (arith, c.scan-test.true)))
          (record { sound_now = c.cross.ensures.sound; setup_same = c.cross.ensures.setup; crossed = c.cross.ensures.crossed; called = c.cross.ensures.called })
          w.in_default.is
          w.oracle-is
          (omega (arith, w.steps-is, c.cross.ensures.counted))
    ]

-- the walk goes on from the parent
pub rising-preserved : goal.rising-preserved
rising-preserved g c =
    rise_on (scanned c.rising.invariant c.scan.invariant)
    (scan_over (scanned c.rising.invariant c.scan.invariant) c.width-width.ensures (omega (arith, c.scan-test.false)))
    (sym c.home.ensures ∙ c.in-Some-home.is)
    c.rise-next.ensures.sound
    c.rise-next.ensures.setup
    c.rise-next.ensures.risen
    c.rise-next.ensures.counted
    c.rise-next.ensures.called

-- a child is reached
pub returns-then-leads_home : goal.returns-then-leads_home
returns-then-leads_home g c =
    let end =
    ends_at_child (scanned c.rising.invariant c.scan.invariant)
    (scan_below (scanned c.rising.invariant c.scan.invariant) c.width-width.ensures (omega (arith, c.scan-test.true)))
    (record { sound_now = c.cross.ensures.sound; setup_same = c.cross.ensures.setup; crossed = c.cross.ensures.crossed; called = c.cross.ensures.called })
    c.in-Some.is
    (sym c.leads_home.ensures ∙ c.if-leads_home.true)
    c.cross.ensures.counted in
    record {
      sound = end.sound_now;
      setup = end.setup_same;
      stopped = end.stopped;
      counted = end.counted_is;
      called = end.called;
      next = ended_next end c.requires;
    }

-- the end is reached
pub returns-in_default-home : goal.returns-in_default-home
returns-in_default-home g c =
    let end =
    ends_at_root (scanned c.rising.invariant c.scan.invariant)
    (scan_over (scanned c.rising.invariant c.scan.invariant) c.width-width.ensures (omega (arith, c.scan-test.false)))
    (sym c.home.ensures ∙ c.in_default-home.is) in
    record {
      sound = end.sound_now;
      setup = end.setup_same;
      stopped = end.stopped;
      counted = end.counted_is;
      called = end.called;
      next = ended_next end c.requires;
    }

pub rising-init : goal.rising-init
rising-init g c = begins c.args.oracle.now c.args.from 0 c.requires (omega arith)

pub scan-init : goal.scan-init
scan-init g c =
    let k = c.rising.invariant.counted_is in
    record { rising = begins c.rising.oracle c.rising.next c.rising.steps c.rising.invariant.sound_now (omega arith); current_same = refl }
