use Rattle.std.proofs.Common.{◌≡◌, ℕ, ◌-◌, ◌*◌, ◌%◌, ◌^◌, ◌<◌, get_or, Some, sym, ap, ◌∙◌, arith, pow_mono}
use lib.Bits.{bit_xor}
use lib.Count.{count_trailing_zeros}
use Rattle.std.proofs.lemmas.Nat.{one_shl}
use Rattle.pairs.specs.Pairs.{number}
use Rattle.triangulations.specs.Moves.{home_slot}
use Rattle.polygon.specs.Rows.{others}
use Rattle.polygon.specs.declared.subject.Polygon.{Polygon}
use Rattle.polygon.proofs.CornerZero.{home_none_is, home_some_is, first_positive, first_below}
use Rattle.polygon.proofs.Standing.{current_set, kept, same_set}
use Rattle.polygon.proofs.walking.PolygonWalking.home.Goals as goal

-- the word of the corners that are not joined to corner 0, and its first digit, as the code has them
apart : Polygon → ℕ
apart p = bit_xor ((1 * 2 ^ p.outline.n) % 2 ^ 32 - 2) (get_or p.rows.0 0 0)

apart_is : (p : Polygon) → apart p ≡ bit_xor (others p.outline.n) (get_or p.rows.0 0 0)
unfolding apart
apart_is p = ap (λ (x : ℕ). bit_xor (x - 2) (get_or p.rows.0 0 0)) (one_shl p.outline.n 32 (omega (arith, p.outline.few)))

some_apart : (p : Polygon) → (apart p ≡ 0 → ⊥) → 0 < bit_xor (others p.outline.n) (get_or p.rows.0 0 0)
some_apart p h = omega (arith, apart_is p, h)

pub overflow_sub-apart : goal.overflow_sub-apart
overflow_sub-apart c =
    let p = c.args.self.now in
    omega (arith, one_shl p.outline.n 32 (omega arith), pow_mono {i = 1} {j = p.outline.n} (omega arith))

pub returns-then-apart-eq0 : goal.returns-then-apart-eq0
unfolding apart
returns-then-apart-eq0 c =
    let p = c.args.self.now in
    sym
    (ap (home_slot p.outline.n) (same_set p)
    ∙ home_none_is p.outline.n (current_set p) p.rows.0 (kept p) (sym (apart_is p) ∙ c.if-apart-eq0.true))

pub first_gap-first-requires : goal.first_gap-first-requires
unfolding apart
first_gap-first-requires c =
    let p = c.args.self.now in
    let l = first_below p.outline.n (current_set p) p.rows.0 (kept p) (some_apart p c.if-apart-eq0.false) in
    omega (arith, ap (count_trailing_zeros 32) (apart_is p), p.outline.few)

pub overflow_sub-first : goal.overflow_sub-first
unfolding apart
overflow_sub-first c =
    let p = c.args.self.now in
    let l = first_positive p.outline.n (current_set p) p.rows.0 (kept p) (some_apart p c.if-apart-eq0.false) in
    let first = ap (λ (q : ℕ × ℕ). q.0) c.first_gap-first.ensures in
    omega (arith, ap (count_trailing_zeros 32) (apart_is p))

pub returns : goal.returns
unfolding apart
returns c =
    let p = c.args.self.now in
    ap Some c.pair_number.ensures ∙ ap (λ (q : ℕ × ℕ). Some (number (q.0 - 1) q.1)) c.first_gap-first.ensures
    ∙ sym
    (ap (home_slot p.outline.n) (same_set p)
    ∙ home_some_is p.outline.n (current_set p) p.rows.0 (kept p) (some_apart p c.if-apart-eq0.false) (count_trailing_zeros 32 (apart p))
    (ap (count_trailing_zeros 32) (apart_is p)))
