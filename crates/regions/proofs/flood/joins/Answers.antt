use Rattle.std.proofs.Common.{◌-◌, ◌^◌, ◌<◌, get_or, sym, refl, subst, subst₂, arith}
use lib.Bits.{bit_and, bit_or}
use lib.Count.{count_trailing_zeros}
use Rattle.std.proofs.lemmas.Nat.{one_shl}
use Rattle.std.proofs.lemmas.Bool.{false≢true}
use Rattle.digits.specs.Bits.{bit, count}
use Rattle.digits.proofs.Digits.{bit_small, count_le, trailing_is}
use Rattle.connected.specs.Connected.{Joined}
use Rattle.connected.proofs.Subsets.{member_within, same_from_xor, apart_from_xor, within_from_meet, meet_from_within}
use Rattle.connected.proofs.Flooding.{
  Flooding,
  next,
  next_below,
  next_seen,
  next_left,
  flooding_none,
  flooding_more,
  looked_grows,
  flooding_joins,
  flooding_reaches,
}
use Rattle.connected.proofs.Decided.{none_joined}
use Rattle.regions.proofs.flood.joins.Goals as goal

pub returns-then-ends-eq0 : goal.returns-then-ends-eq0
returns-then-ends-eq0 c = (λ e. none_joined c.args.map.now.rows c.args.set c.args.ends c.if-ends-eq0.true, λ k. refl)

pub loop-seen-init : goal.loop-seen-init
loop-seen-init c =
    let s = c.args.set in
    let a = count_trailing_zeros 64 c.args.ends in
    let low = trailing_is 64 c.args.ends (omega arith) c.ranges.ends.fits in
    let m = member_within c.args.ends s a c.requires low.1 in
    subst (λ x. Flooding c.args.map.now.rows s a x 0) (sym (one_shl a 64 low.0)) (flooding_none c.args.map.now.rows s a low.0 m)

-- nothing is left to look at, and an end is not reached
pub returns-then-frontier-eq0 : goal.returns-then-frontier-eq0
returns-then-frontier-eq0 c =
    let t = c.args.map.now.rows in
    let s = c.args.set in
    let ends = c.args.ends in
    let l = c.loop-seen in
    let first = (trailing_is 64 ends (omega arith) c.ranges.ends.fits).1 in
    let same = same_from_xor 64 l.seen l.done l.invariant.seen_fits l.invariant.done_fits c.if-frontier-eq0.true in
    let apart : Joined t s ends → ⊥ =
    λ k. c.loop-seen-test.true
    (meet_from_within 64 l.seen ends c.ranges.ends.fits
    (flooding_reaches t s ends (count_trailing_zeros 64 ends) l.seen l.done l.invariant same first k)) in
    (λ e. absurd (false≢true e), λ k. absurd (apart k))

pub bounds-rows-next : goal.bounds-rows-next
bounds-rows-next c =
    let l = c.loop-seen in
    next_below c.args.map.now.rows c.args.set (count_trailing_zeros 64 c.args.ends) l.seen l.done l.invariant
    (apart_from_xor l.seen l.done c.if-frontier-eq0.false)

pub overflow_shl-done : goal.overflow_shl-done
overflow_shl-done c =
    let l = c.loop-seen in
    next_below c.args.map.now.rows c.args.set (count_trailing_zeros 64 c.args.ends) l.seen l.done l.invariant
    (apart_from_xor l.seen l.done c.if-frontier-eq0.false)

pub loop-seen-smaller : goal.loop-seen-smaller
loop-seen-smaller c =
    let l = c.loop-seen in
    let d = l.done in
    let i = next l.seen d in
    let t = c.args.map.now.rows in
    let s = c.args.set in
    let a = count_trailing_zeros 64 c.args.ends in
    let n = apart_from_xor l.seen d c.if-frontier-eq0.false in
    let below = next_below t s a l.seen d l.invariant n in
    let grown = looked_grows 64 d i below (next_left t s a l.seen d l.invariant n) in
    let few = count_le 64 (bit (bit_or d (2 ^ i))) (λ j l. bit_small (bit_or d (2 ^ i)) j) in
    subst (λ x. 64 - count 64 (bit (bit_or d x)) < 64 - count 64 (bit d)) (sym (one_shl i 64 below)) (omega arith)

pub loop-seen-preserved : goal.loop-seen-preserved
loop-seen-preserved c =
    let l = c.loop-seen in
    let t = c.args.map.now.rows in
    let s = c.args.set in
    let a = count_trailing_zeros 64 c.args.ends in
    let i = next l.seen l.done in
    let n = apart_from_xor l.seen l.done c.if-frontier-eq0.false in
    let below = next_below t s a l.seen l.done l.invariant n in
    let more = flooding_more t s a l.seen l.done i c.ranges.set.fits below l.invariant (next_seen t s a l.seen l.done l.invariant n) in
    subst₂ (λ x y. Flooding t s a (bit_or l.seen (bit_and (get_or x i 0) s)) (bit_or l.done y)) (sym c.rows-rows.ensures) (sym (one_shl i 64 below)) more

pub returns : goal.returns
returns c =
    let l = c.loop-seen in
    let ends = c.args.ends in
    let whole = within_from_meet l.seen ends c.loop-seen-test.false in (
      λ e. flooding_joins c.args.map.now.rows c.args.set ends (count_trailing_zeros 64 ends) l.seen l.done c.args.map.now.mutual l.invariant whole,
      λ k. refl,
    )
