-- One region put into a connected set, or taken out: what is left to judge.
use Rattle.std.proofs.Common.{◌≡◌, ℕ, ◌^◌, ◌<◌, Bool, true, not, ◌||◌, eqb, ◌≢◌, ◌⊎◌, List, get_or, Decides, sym, ap, ◌∙◌, subst, inl, inr, arith}
use lib.Bits.{bit_and, bit_xor}
use lib.Count.{count_trailing_zeros}
use Rattle.std.proofs.lemmas.Nat.{and_le_r}
use Rattle.std.proofs.lemmas.Bool.{cases_eq, eqb-true, eqb-false, eq-eqb, ne_eqb, not-true, not_from_false, or_left, or_right, or_cases}
use Rattle.std.proofs.lemmas.Bool.Decides.{Decides-like}
use Rattle.digits.specs.Bits.{bit}
use Rattle.digits.proofs.Digits.{bit_small, bit_zero, bit-and, trailing_is, flip_same, flip_other}
use Rattle.maps.specs.Touch.{touches, Mutual}
use Rattle.connected.specs.Connected.{Member, Within, Chain, here, onward, Joined, Connected}
use Rattle.connected.proofs.Subsets.{member_within}
use Rattle.connected.proofs.Chains.{chain_last, chain_join, chain_back, chain_leaves}
use Rattle.connected.proofs.Removal.{lone_connected, added_connected}

-- the members of s that region q touches
abbrev pub near : List ℕ → ℕ → ℕ → ℕ
near t s q = bit_and (get_or t q 0) s

near_member : (t : List ℕ) (s q p : ℕ) → touches t q p ≡ 1 → Member s p → Member (near t s q) p
near_member t s q p e m = omega (arith, bit-and (get_or t q 0) s p)

pub near_within : (t : List ℕ) (s q : ℕ) → Within (near t s q) s
near_within t s q j = omega (arith, bit-and (get_or t q 0) s j)

-- A region put in: the set was empty, or the region touches a member.
module _ (t : List ℕ) (s q : ℕ) (both : Mutual t) (hs : s < 2 ^ 64) (c : Connected t s) (out : bit s q ≡ 0) where
  touching : near t s q ≢ 0 → Connected t (bit_xor s (2 ^ q))
  touching n =
      let p = count_trailing_zeros 64 (near t s q) in
      let low = trailing_is 64 (near t s q) (omega arith) (omega (arith, and_le_r (get_or t q 0) s)) in
      let e : touches t q p ≡ 1 = omega (arith, low.1, bit-and (get_or t q 0) s p, bit_small (get_or t q 0) p) in
      let m : Member s p = omega (arith, low.1, bit-and (get_or t q 0) s p, bit_small s p) in
      added_connected t s p q both c m out (both p q ∙ e)

  only-new : (p : ℕ) → bit s p ≡ 0 → Member (bit_xor s (2 ^ q)) p → p ≡ q
  only-new p z m = go (cases_eq p q)
    where
      go : (p ≡ q) ⊎ (p ≢ q) → p ≡ q
      go (inl e) = e
      go (inr n) = absurd (omega (arith, flip_other s q p n))

  touched : s ≢ 0 → Connected t (bit_xor s (2 ^ q)) → near t s q ≢ 0
  touched some k z =
      let a = count_trailing_zeros 64 s in
      let first = (trailing_is 64 s (omega arith) hs).1 in
      let added : Member (bit_xor s (2 ^ q)) q = omega (arith, flip_same s q) in
      let kept : Member (bit_xor s (2 ^ q)) a = flip_other s q a (λ e. omega (arith, ap (bit s) e)) ∙ first in
      let x = chain_leaves s first out (k a q kept added) in
      let same = only-new x.1 x.3 x.5 in
      let e : touches t q x.0 ≡ 1 = both q x.0 ∙ ap (touches t x.0) (sym same) ∙ x.4 in
      omega (arith, near_member t s q x.0 e x.2, ap (λ y. bit y x.0) z, bit_zero x.0)

  pub put_in_decides : Decides (eqb s 0 || not (eqb (near t s q) 0)) (Connected t (bit_xor s (2 ^ q)))
  put_in_decides = (to, from (cases_eq s 0))
    where
      go : (eqb s 0 ≡ true) ⊎ (not (eqb (near t s q) 0) ≡ true) → Connected t (bit_xor s (2 ^ q))
      go (inl e) = subst (λ x. Connected t (bit_xor x (2 ^ q))) (sym (eqb-true s 0 e)) (lone_connected t q)
      go (inr e) = touching (eqb-false (near t s q) 0 (not-true (eqb (near t s q) 0) e))

      to : (eqb s 0 || not (eqb (near t s q) 0)) ≡ true → Connected t (bit_xor s (2 ^ q))
      to h = go (or_cases (eqb s 0) (not (eqb (near t s q) 0)) h)

      from : (s ≡ 0) ⊎ (s ≢ 0) → Connected t (bit_xor s (2 ^ q)) → (eqb s 0 || not (eqb (near t s q) 0)) ≡ true
      from (inl e) k = or_left (eqb s 0) (not (eqb (near t s q) 0)) (eq-eqb s 0 e)
      from (inr n) k =
          or_right (eqb s 0) (not (eqb (near t s q) 0))
          (not_from_false (eqb (near t s q) 0) (ne_eqb (near t s q) 0 (touched n k)))

-- A member i taken out: the members that it touches are still joined.
module _ (t : List ℕ) (s i : ℕ) (both : Mutual t) (c : Connected t s) (m : Member s i) where
  left : ℕ
  left = bit_xor s (2 ^ i)

  gone : bit left i ≡ 0
  unfolding left
  gone = omega (arith, flip_same s i)

  as_before : (k : ℕ) → k ≢ i → bit left k ≡ bit s k
  unfolding left
  as_before k n = flip_other s i k n

  -- a chain of s that begins apart from i stays in what is left, or comes to a region that i touches
  abbrev Comes : ℕ → ℕ → Type 0
  Comes a k = Chain t left a k ⊎ ((q : ℕ) × (touches t q i ≡ 1) × Chain t left a q)

  comes : {a k : ℕ} → a ≢ i → Chain t s a k → Comes a k
  comes {a} n (here ma) = inl (here (as_before a n ∙ ma))
  comes {a} n (onward {j = p} {k = k} b e mk) = go (comes n b) (cases_eq k i)
    where
      go : Comes a p → (k ≡ i) ⊎ (k ≢ i) → Comes a k
      go (inr x) d = inr x
      go (inl b') (inl same) = inr (p, ap (touches t p) (sym same) ∙ e, b')
      go (inl b') (inr other) = inl (onward b' e (as_before k other ∙ mk))

  -- so each member left is joined to one that i touches
  to-near : (a : ℕ) → Member left a → (q : ℕ) × Member (near t left i) q × Chain t left a q
  to-near a ma = go (comes apart (c a i (sym (as_before a apart) ∙ ma) m))
    where
      apart : a ≢ i
      apart e = omega (arith, ap (bit left) e, gone)

      go : Comes a i → (q : ℕ) × Member (near t left i) q × Chain t left a q
      go (inl b) = absurd (omega (arith, chain_last b, gone))
      go (inr (q, e, b)) = (q, near_member t left i q (both i q ∙ e) (chain_last b), b)

  taken-out-joins : Joined t left (near t left i) → Connected t left
  taken-out-joins joined a b ma mb =
      let x = to-near a ma in
      let y = to-near b mb in
      chain_join x.2 (chain_join (joined x.0 y.0 x.1 y.1) (chain_back both y.2))

  taken-out-joined : Connected t left → Joined t left (near t left i)
  taken-out-joined k a b ma mb =
      k a b (member_within (near t left i) left a (near_within t left i) ma) (member_within (near t left i) left b (near_within t left i) mb)

  pub taken_out_decides : (r : Bool) → Decides r (Joined t (bit_xor s (2 ^ i)) (near t (bit_xor s (2 ^ i)) i)) → Decides r (Connected t (bit_xor s (2 ^ i)))
  unfolding left
  taken_out_decides r d = Decides-like r taken-out-joins taken-out-joined d
