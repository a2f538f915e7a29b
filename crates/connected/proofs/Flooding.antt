-- What holds at each turn of a flood fill: the loop of the program and the test that computes share it.
-- `seen` are the regions reached from the member a, and `done` those of them whose touching regions were
-- looked at.
use Rattle.std.proofs.Common.{◌≡◌, ℕ, ◌+◌, ◌^◌, ◌<◌, ◌≤◌, min, max, ◌≢◌, ◌⊎◌, List, get_or, sym, ap, ◌∙◌, subst, inl, inr, arith}
use lib.Bits.{bit_and, bit_or, bit_xor}
use lib.Count.{count_trailing_zeros}
use Rattle.std.proofs.lemmas.Bool.{cases_eq}
use Rattle.std.proofs.lemmas.Nat.{or_lt, and_le_r, pow_below}
use Rattle.digits.specs.Bits.{bit, count}
use Rattle.digits.proofs.Digits.{
  bit_small,
  bit_cases,
  bit_zero,
  bit-and,
  bit-or,
  bit_pow_same,
  bit_pow_other,
  or_pow_same,
  or_pow_other,
  or_pow_lt,
  count_change,
}
use Rattle.maps.specs.Touch.{touches, Mutual}
use Rattle.connected.specs.Connected.{Member, Within, Chain, here, onward, Joined}
use Rattle.connected.proofs.Subsets.{member_within, differ}
use Rattle.connected.proofs.Chains.{chain_join, chain_back, chain_kept}

pub record Flooding (t : List ℕ) (s a seen done : ℕ) : Type 0 where
  pub seen_fits : seen < 2 ^ 64
  pub done_fits : done < 2 ^ 64
  pub looked : Within done seen
  pub inside : Within seen s
  pub start : Member seen a
  pub chained : (j : ℕ) → Member seen j → Chain t s a j
  pub spread : (p q : ℕ) → Member done p → touches t p q ≡ 1 → Member s q → Member seen q

-- it starts with one member
pub flooding_none : (t : List ℕ) (s a : ℕ) → a < 64 → Member s a → Flooding t s a (2 ^ a) 0
flooding_none t s a l m =
    record {
      seen_fits = pow_below a 64 l;
      done_fits = omega arith;
      looked = λ j. omega (arith, bit_zero j);
      inside = λ j. part j (cases_eq j a);
      start = bit_pow_same a;
      chained = λ j h. only j h (cases_eq j a);
      spread = λ p q h. absurd (omega (arith, bit_zero p));
    }
  where
    part : (j : ℕ) → (j ≡ a) ⊎ (j ≢ a) → bit (2 ^ a) j ≤ bit s j
    part j (inl e) = omega (arith, ap (bit s) e, bit_small (2 ^ a) j)
    part j (inr n) = omega (arith, bit_pow_other a j n)

    only : (j : ℕ) → Member (2 ^ a) j → (j ≡ a) ⊎ (j ≢ a) → Chain t s a j
    only j h (inl e) = subst (Chain t s a) (sym e) (here m)
    only j h (inr n) = absurd (omega (arith, bit_pow_other a j n))

-- the next region: reached, and not looked at
abbrev pub next : ℕ → ℕ → ℕ
next seen done = count_trailing_zeros 64 (bit_xor seen done)

module _ (t : List ℕ) (s a seen done : ℕ) (f : Flooding t s a seen done) (left : seen ≢ done) where
  pub next_below : next seen done < 64
  next_below = (differ 64 seen done f.seen_fits f.done_fits left).0

  difference : bit seen (next seen done) + bit done (next seen done) ≡ 1
  difference = (differ 64 seen done f.seen_fits f.done_fits left).1

  pub next_seen : Member seen (next seen done)
  next_seen = omega (arith, difference, f.looked (next seen done), bit_small seen (next seen done))

  pub next_left : bit done (next seen done) ≡ 0
  next_left = omega (arith, difference, next_seen)

-- it lets in the members that it touches
module _ (t : List ℕ) (s a seen done i : ℕ) (hs : s < 2 ^ 64) (l : i < 64) (f : Flooding t s a seen done) (m : Member seen i) where
  let-in : ℕ
  let-in = bit_or seen (bit_and (get_or t i 0) s)

  in-or : (j : ℕ) → bit let-in j ≡ max (bit seen j) (min (touches t i j) (bit s j))
  unfolding let-in
  in-or j = bit-or seen (bit_and (get_or t i 0) s) j ∙ ap (max (bit seen j)) (bit-and (get_or t i 0) s j)

  looked-more : (j : ℕ) → (j ≡ i) ⊎ (j ≢ i) → bit (bit_or done (2 ^ i)) j ≤ bit let-in j
  looked-more j (inl e) = omega (arith, in-or j, ap (bit seen) e, bit_small (bit_or done (2 ^ i)) j)
  looked-more j (inr n) = omega (arith, in-or j, or_pow_other done i j n, f.looked j)

  chained_more : (j : ℕ) → Member let-in j → (bit seen j ≡ 0) ⊎ (bit seen j ≡ 1) → Chain t s a j
  chained_more j h (inl z) =
      let e : touches t i j ≡ 1 = omega (arith, in-or j, bit_small (get_or t i 0) j) in
      let mj : Member s j = omega (arith, in-or j, bit_small s j) in
      onward (f.chained i m) e mj
  chained_more j h (inr o) = f.chained j o

  spread-more : (p q : ℕ) → (p ≡ i) ⊎ (p ≢ i) → Member (bit_or done (2 ^ i)) p → touches t p q ≡ 1 → Member s q → Member let-in q
  spread-more p q (inl e) h k mq = omega (arith, in-or q, ap (λ x. touches t x q) e, bit_small seen q)
  spread-more p q (inr n) h k mq =
      let old = f.spread p q (sym (or_pow_other done i p n) ∙ h) k mq in
      omega (arith, in-or q, bit_small s q, bit_small (get_or t i 0) q)

  pub flooding_more : Flooding t s a (bit_or seen (bit_and (get_or t i 0) s)) (bit_or done (2 ^ i))
  unfolding let-in
  flooding_more =
      record {
        seen_fits = or_lt 64 seen (bit_and (get_or t i 0) s) f.seen_fits (omega (arith, and_le_r (get_or t i 0) s));
        done_fits = or_pow_lt 64 done i f.done_fits l;
        looked = λ j. looked-more j (cases_eq j i);
        inside = λ j. omega (arith, in-or j, f.inside j);
        start = omega (arith, in-or a, f.start, bit_small let-in a);
        chained = λ j h. chained_more j h (bit_cases seen j);
        spread = λ p q. spread-more p q (cases_eq p i);
      }

-- each turn looks at one region more
pub looked_grows : (k done i : ℕ) → i < k → bit done i ≡ 0 → count k (bit (bit_or done (2 ^ i))) ≡ count k (bit done) + 1
looked_grows k done i l z =
    omega (arith, count_change k (bit (bit_or done (2 ^ i))) (bit done) i l (λ j m n. or_pow_other done i j n), or_pow_same done i)

-- if all the ends are reached, any two of them are joined
pub flooding_joins : (t : List ℕ) (s ends a seen done : ℕ) → Mutual t → Flooding t s a seen done → Within ends seen → Joined t s ends
flooding_joins t s ends a seen done both f w i j mi mj =
    chain_join (chain_back both (f.chained i (member_within ends seen i w mi))) (f.chained j (member_within ends seen j w mj))

-- if every region reached was looked at and the ends are joined, all of them are reached
pub flooding_reaches : (t : List ℕ) (s ends a seen done : ℕ) → Flooding t s a seen done → seen ≡ done → Member ends a → Joined t s ends
    → Within ends seen
flooding_reaches t s ends a seen done f e m c j = level (bit_cases ends j)
  where
    closed : (p q : ℕ) → Member seen p → touches t p q ≡ 1 → Member s q → Member seen q
    closed p q h = f.spread p q (sym (ap (λ x. bit x p) e) ∙ h)

    level : (bit ends j ≡ 0) ⊎ (bit ends j ≡ 1) → bit ends j ≤ bit seen j
    level (inl z) = omega arith
    level (inr o) = omega (arith, chain_kept seen closed f.start (c a j m o))
