use Rattle.std.proofs.Common.{length, refl, sym, rules, arith}
use Rattle.std.proofs.lemmas.Bool.{eqb-true, eqb-false}
use Rattle.protocols.specs.Views.{request_of}
use Rattle.protocols.proofs.Firsts.{shorter, told_readable, told_unreadable, unreadable_end, unreadable_first, unreadable_here, unreadable_on}
use Rattle.protocols.proofs.read.first_unreadable.Goals as goal

pub loop-behind-init : goal.loop-behind-init
loop-behind-init c = (search (rules, unreadable_first c.args.bytes.now), omega arith)

pub loop-behind-smaller : goal.loop-behind-smaller
loop-behind-smaller c =
    let less = shorter c.loop-behind.rest.now (request_of c.in-Some.field-0-0) c.in-Some.behind.now c.in-Some.ensures in
    omega arith

pub loop-behind-preserved : goal.loop-behind-preserved
loop-behind-preserved c =
    let less = shorter c.loop-behind.rest.now (request_of c.in-Some.field-0-0) c.in-Some.behind.now c.in-Some.ensures in (
      unreadable_on c.args.bytes.now c.loop-behind.number c.loop-behind.rest.now (request_of c.in-Some.field-0-0) c.in-Some.behind.now c.in-Some.ensures c.loop-behind.invariant.0,
      omega (arith, c.loop-behind.invariant.1),
    )

pub returns-then-is_empty-clause-value : goal.returns-then-is_empty-clause-value
returns-then-is_empty-clause-value c =
    unreadable_end c.args.bytes.now c.loop-behind.number c.loop-behind.rest.now
    (eqb-true (length c.loop-behind.rest.now) 0 (sym c.if-is_empty.ensures)) c.loop-behind.invariant.0

pub returns-then-is_empty-clause-readable : goal.returns-then-is_empty-clause-readable
returns-then-is_empty-clause-readable c none =
    told_readable c.args.bytes.now _
    (unreadable_end c.args.bytes.now c.loop-behind.number c.loop-behind.rest.now
    (eqb-true (length c.loop-behind.rest.now) 0 (sym c.if-is_empty.ensures)) c.loop-behind.invariant.0) refl

pub returns-else-is_empty-clause-value : goal.returns-else-is_empty-clause-value
returns-else-is_empty-clause-value c =
    let some = eqb-false (length c.loop-behind.rest.now) 0 (sym c.if-is_empty.ensures) in
    unreadable_here c.args.bytes.now c.loop-behind.number c.loop-behind.rest.now c.in_default.ensures (omega (arith, some)) c.loop-behind.invariant.0

pub returns-else-is_empty-clause-unreadable : goal.returns-else-is_empty-clause-unreadable
returns-else-is_empty-clause-unreadable c =
    let some = eqb-false (length c.loop-behind.rest.now) 0 (sym c.if-is_empty.ensures) in
    told_unreadable c.args.bytes.now c.loop-behind.number
    (unreadable_here c.args.bytes.now c.loop-behind.number c.loop-behind.rest.now c.in_default.ensures (omega (arith, some)) c.loop-behind.invariant.0)
