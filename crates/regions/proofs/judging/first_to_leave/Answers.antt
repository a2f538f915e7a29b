use Rattle.std.proofs.Common.{refl}
use lib.Count.{count_trailing_zeros}
use Rattle.connected.proofs.Laws.{set_decides}
use Rattle.regions.proofs.Leaving.{tried_none, next_below, tried_more, tried_found, tried_all}
use Rattle.regions.proofs.judging.first_to_leave.Goals as goal

pub loop-rest-init : goal.loop-rest-init
loop-rest-init c = let m = c.args.map.now in tried_none m.n m.rows c.args.set c.ranges.set.fits

pub stays_set-requires-clause-below : goal.stays_set-requires-clause-below
stays_set-requires-clause-below c =
    let m = c.args.map.now in
    let s = c.args.set in
    let l = c.loop-rest in
    let i = count_trailing_zeros 64 l.rest in
    let inside = ((set_decides m.n m.rows m.few m.mutual s).0 c.requires).0 in
    next_below m.n m.rows s l.rest i l.invariant c.loop-rest-test.true refl inside

pub returns-then-stays_set : goal.returns-then-stays_set
returns-then-stays_set c =
    let m = c.args.map.now in
    let s = c.args.set in
    let l = c.loop-rest in
    let i = count_trailing_zeros 64 l.rest in
    let inside = ((set_decides m.n m.rows m.few m.mutual s).0 c.requires).0 in
    tried_found m.n m.rows s l.rest i l.invariant c.loop-rest-test.true refl inside c.if-stays_set.ensures

pub loop-rest-preserved : goal.loop-rest-preserved
loop-rest-preserved c =
    let m = c.args.map.now in
    let l = c.loop-rest in
    let i = count_trailing_zeros 64 l.rest in
    tried_more m.n m.rows c.args.set l.rest i l.invariant c.loop-rest-test.true refl c.if-stays_set.ensures

pub returns : goal.returns
returns c =
    let m = c.args.map.now in
    tried_all m.n m.rows c.args.set c.loop-rest.rest c.loop-rest.invariant c.loop-rest-test.false
