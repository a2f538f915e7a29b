use Rattle.std.proofs.Common.{Decides, get_or, sym, ap, subst}
use lib.Bits.{bit_and}
use Rattle.std.proofs.lemmas.Bool.{eqb-true}
use Rattle.std.proofs.lemmas.Bool.Decides.{Decides-at}
use Rattle.digits.specs.Bits.{bit}
use Rattle.digits.proofs.Digits.{bit_off, flip_lt}
use Rattle.connected.specs.Connected.{Joined}
use Rattle.connected.specs.Sets.{turned}
use Rattle.connected.proofs.Laws.{set_decides}
use Rattle.connected.proofs.Turned.{near, near_within, put_in_decides, taken_out_decides}
use Rattle.regions.proofs.Coded.{judged}
use Rattle.regions.proofs.turning.stays_set.Goals as goal

pub joins-requires : goal.joins-requires
joins-requires c = near_within c.rows.result.now c.turned-left.result c.args.region

pub returns-then-has : goal.returns-then-has
returns-then-has c =
    let m = c.args.map.now in
    let t = m.rows in
    let s = c.args.set in
    let i = c.args.region in
    let r = c.joins.result in
    let object = (set_decides m.n t m.few m.mutual s).0 c.requires.object in
    let member = eqb-true (bit s i) 1 (sym c.if-has.ensures) in
    let row = ap (λ rows. get_or rows i 0) c.rows.ensures in
    let joined = subst (λ x. Decides r (Joined t c.turned-left.result (bit_and x c.turned-left.result))) row c.joins.ensures in
    judged m (turned s i) r (flip_lt m.n s i object.0 c.requires.below)
    (taken_out_decides t s i m.mutual object.1 member r
    (subst (λ x. Decides r (Joined t x (near t x i))) c.turned-left.ensures joined))

pub returns-else-has : goal.returns-else-has
returns-else-has c =
    let m = c.args.map.now in
    let t = m.rows in
    let s = c.args.set in
    let i = c.args.region in
    let r = c.can_join.result in
    let object = (set_decides m.n t m.few m.mutual s).0 c.requires.object in
    let row = ap (λ rows. get_or rows i 0) c.rows.ensures in
    judged m (turned s i) r (flip_lt m.n s i object.0 c.requires.below)
    (Decides-at r _ (rw (sym row) c.can_join.ensures)
    (put_in_decides t s i m.mutual c.ranges.set.fits object.1 (bit_off s i (sym c.if-has.ensures))))
