-- The test that computes decides what connected means.
use Rattle.std.proofs.Common.{◌≡◌, ℕ, zero, suc, ◌+◌, ◌^◌, ◌<◌, ◌≤◌, Bool, true, false, ◌||◌, eqb, ◌≢◌, ◌⊎◌, List, get_or, Decides, refl, ap, inl, inr, ⊎_elim, arith}
use lib.Bits.{bit_and, bit_or}
use lib.Count.{count_trailing_zeros}
use Rattle.std.proofs.lemmas.Bool.{cases_eq, eqb-true, eqb-false, eq-eqb, or_left, or_right, or_cases}
use Rattle.digits.specs.Bits.{bit, count}
use Rattle.digits.proofs.Digits.{bit_small, bit_zero, count_le, trailing_is}
use Rattle.maps.specs.Touch.{Mutual}
use Rattle.connected.specs.Connected.{Joined, Connected, reached, is_connected}
use Rattle.connected.proofs.Subsets.{same_from_within}
use Rattle.connected.proofs.Flooding.{
  Flooding,
  next,
  next_below,
  next_seen,
  next_left,
  flooding_none,
  flooding_more,
  looked_grows,
  flooding_joins,
  flooding_reaches,
}

-- the flood fill comes to an end within 64 turns
module _ (t : List ℕ) (s a : ℕ) (hs : s < 2 ^ 64) where
  abbrev Goes_on : ℕ → Type 0
  Goes_on turns = (seen done : ℕ) → Flooding t s a seen done → 64 ≤ turns + count 64 (bit done) → (d : ℕ) × Flooding t s a (reached turns t s seen done) d × (reached turns t s seen done ≡ d)

  all-looked : (seen done : ℕ) → Flooding t s a seen done → 64 ≤ count 64 (bit done) → (seen ≡ done) ⊎ (seen ≢ done) → seen ≡ done
  all-looked seen done f enough (inl e) = e
  all-looked seen done f enough (inr n) =
      let i = next seen done in
      let grown = looked_grows 64 done i (next_below t s a seen done f n) (next_left t s a seen done f n) in
      absurd (omega (arith, grown, count_le 64 (bit (bit_or done (2 ^ i))) (λ j l. bit_small (bit_or done (2 ^ i)) j)))

  reached-ends : (turns : ℕ) → Goes_on turns
  unfolding reached
  reached-ends zero seen done f enough = (done, f, all-looked seen done f (omega arith) (cases_eq seen done))
  reached-ends (suc turns) seen done f enough = go (eqb seen done) refl (reached-ends turns)
    where
      i : ℕ
      i = next seen done

      go : (b : Bool) → eqb seen done ≡ b → Goes_on turns
          → let r : ℕ = elim b [ true ↦ seen | false ↦ reached turns t s (bit_or seen (bit_and (get_or t i 0) s)) (bit_or done (2 ^ i)) ] in
          (d : ℕ) × Flooding t s a r d × (r ≡ d)
      go true e rest = (done, f, eqb-true seen done e)
      go false e rest =
          let n : seen ≢ done = eqb-false seen done e in
          let l = next_below t s a seen done f n in
          rest (bit_or seen (bit_and (get_or t i 0) s)) (bit_or done (2 ^ i)) (flooding_more t s a seen done i hs l f (next_seen t s a seen done f n))
          (omega (arith, looked_grows 64 done i l (next_left t s a seen done f n)))

pub empty_passes : (t : List ℕ) → is_connected t 0 ≡ true
unfolding is_connected
empty_passes t = refl

pub none_joined : (t : List ℕ) (s ends : ℕ) → ends ≡ 0 → Joined t s ends
none_joined t s ends e i j mi mj = absurd (omega (arith, ap (λ x. bit x i) e, bit_zero i))

pub connected_decides : (t : List ℕ) (s : ℕ) → Mutual t → s < 2 ^ 64 → Decides (is_connected t s) (Connected t s)
unfolding is_connected
connected_decides t s both hs = go (cases_eq s 0)
  where
    a : ℕ
    a = count_trailing_zeros 64 s

    r : ℕ
    r = reached 64 t s (2 ^ a) 0

    ends : 0 < s → (d : ℕ) × Flooding t s a r d × (r ≡ d)
    ends some =
        let low = trailing_is 64 s some hs in
        reached-ends t s a hs 64 (2 ^ a) 0 (flooding_none t s a low.0 low.1) (omega arith)

    go : (s ≡ 0) ⊎ (s ≢ 0) → Decides (eqb s 0 || eqb r s) (Connected t s)
    go (inl e) = (λ h. none_joined t s s e, λ c. or_left (eqb s 0) (eqb r s) (eq-eqb s 0 e))
    go (inr n) =
        let f = ends (omega arith) in
        let whole : r ≡ s → Connected t s = λ q. flooding_joins t s s a r f.0 both f.1 (λ j. omega (arith, ap (λ x. bit x j) q)) in
        let first = (trailing_is 64 s (omega arith) hs).1 in
        let same : Connected t s → r ≡ s =
        λ c. same_from_within 64 r s f.1.seen_fits hs f.1.inside (flooding_reaches t s s a r f.0 f.1 f.2 first c) in (
          λ h. ⊎_elim (λ z. absurd (n (eqb-true s 0 z))) (λ q. whole (eqb-true r s q)) (or_cases (eqb s 0) (eqb r s) h),
          λ c. or_right (eqb s 0) (eqb r s) (eq-eqb r s (same c)),
        )
