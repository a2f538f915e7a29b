-- A connected set that is not empty has a member whose removal leaves a connected set: built up from one
-- member by adding a touching member at a time, the last one added can go.
use Rattle.std.proofs.Common.{◌≡◌, ℕ, zero, suc, ◌+◌, ◌^◌, ◌<◌, ◌≤◌, ◌≢◌, ◌⊎◌, List, sym, ap, ◌∙◌, subst, inl, inr, arith}
use lib.Bits.{bit_xor}
use lib.Count.{count_trailing_zeros}
use Rattle.std.proofs.lemmas.Bool.{cases_eq}
use Rattle.std.proofs.lemmas.Nat.{pow_pos}
use Rattle.digits.specs.Bits.{bit, count}
use Rattle.digits.proofs.Digits.{
  bit_small,
  bit_zero,
  trailing_is,
  flip_same,
  flip_other,
  flip_twice,
  flip_lt,
  count_change,
  count_le,
}
use Rattle.maps.specs.Touch.{touches, Mutual}
use Rattle.connected.specs.Connected.{Member, Within, Chain, here, onward, Connected}
use Rattle.connected.proofs.Subsets.{member_within, differ, below}
use Rattle.connected.proofs.Chains.{chain_within, chain_join, chain_leaves}

-- one region alone is connected
pub lone_connected : (t : List ℕ) (q : ℕ) → Connected t (bit_xor 0 (2 ^ q))
lone_connected t q i j mi mj = subst (λ k. Chain t (bit_xor 0 (2 ^ q)) i k) (only i mi ∙ sym (only j mj)) (here mi)
  where
    only : (k : ℕ) → Member (bit_xor 0 (2 ^ q)) k → k ≡ q
    only k m = go (cases_eq k q)
      where
        go : (k ≡ q) ⊎ (k ≢ q) → k ≡ q
        go (inl e) = e
        go (inr n) = absurd (omega (arith, flip_other 0 q k n, bit_zero k))

-- a region q that touches a member p of g can be added
module _ (t : List ℕ) (g p q : ℕ) (both : Mutual t) (c : Connected t g) (mp : Member g p) (out : bit g q ≡ 0) (e : touches t p q ≡ 1) where
  larger : Within g (bit_xor g (2 ^ q))
  larger j = go (cases_eq j q)
    where
      go : (j ≡ q) ⊎ (j ≢ q) → bit g j ≤ bit (bit_xor g (2 ^ q)) j
      go (inl z) = omega (arith, ap (bit g) z)
      go (inr n) = omega (arith, flip_other g q j n)

  added : Member (bit_xor g (2 ^ q)) q
  added = omega (arith, flip_same g q)

  -- from any member to q, through p
  to-added : (i : ℕ) → Member g i → Chain t (bit_xor g (2 ^ q)) i q
  to-added i m = onward (chain_within (bit_xor g (2 ^ q)) larger (c i p m mp)) e added

  from-added : (j : ℕ) → Member g j → Chain t (bit_xor g (2 ^ q)) q j
  from-added j m =
      chain_join (onward (here added) (both q p ∙ e) (member_within g (bit_xor g (2 ^ q)) p larger mp))
      (chain_within (bit_xor g (2 ^ q)) larger (c p j mp m))

  pub added_connected : Connected t (bit_xor g (2 ^ q))
  added_connected i j mi mj = go (cases_eq i q) (cases_eq j q)
    where
      old : (k : ℕ) → k ≢ q → Member (bit_xor g (2 ^ q)) k → Member g k
      old k n m = sym (flip_other g q k n) ∙ m

      go : (i ≡ q) ⊎ (i ≢ q) → (j ≡ q) ⊎ (j ≢ q) → Chain t (bit_xor g (2 ^ q)) i j
      go (inl x) (inl y) = subst (λ k. Chain t (bit_xor g (2 ^ q)) i k) (x ∙ sym y) (here mi)
      go (inl x) (inr n) = subst (λ k. Chain t (bit_xor g (2 ^ q)) k j) (sym x) (from-added j (old j n mj))
      go (inr n) (inl y) = subst (λ k. Chain t (bit_xor g (2 ^ q)) i k) (sym y) (to-added i (old i n mi))
      go (inr n) (inr m) = chain_within (bit_xor g (2 ^ q)) larger (c i j (old i n mi) (old j m mj))

-- building s up: g is what stands so far, at first nothing
module _ (n : ℕ) (t : List ℕ) (s : ℕ) (both : Mutual t) (hs : s < 2 ^ n) (c : Connected t s) where
  -- a region that can be added to g
  abbrev Next : ℕ → Type 0
  Next g = (q : ℕ) × (q < n) × (bit g q ≡ 0) × Member s q × Connected t (bit_xor g (2 ^ q))

  next_of : (g : ℕ) → g < 2 ^ n → Within g s → Connected t g → g ≢ s → Next g
  next_of g hg w cg ne = go (cases_eq g 0)
    where
      b : ℕ
      b = count_trailing_zeros n (bit_xor g s)

      missing : (b < n) × (bit g b ≡ 0) × Member s b
      missing =
          let d = differ n g s hg hs ne in
          (d.0, omega (arith, d.1, w b, bit_small s b), omega (arith, d.1, w b, bit_small s b))

      across : 0 < g → Next g
      across some =
          let low = trailing_is n g some hg in
          let a = count_trailing_zeros n g in
          let x = chain_leaves g low.1 missing.1 (c a b (member_within g s a w low.1) missing.2) in
          let inside : x.1 < n = below n s x.1 hs x.5 in
          (x.1, inside, x.3, x.5, added_connected t g x.0 x.1 both cg x.2 x.3 x.4)

      go : (g ≡ 0) ⊎ (g ≢ 0) → Next g
      go (inl e) =
          (b, missing.0, missing.1, missing.2, subst (λ x. Connected t (bit_xor x (2 ^ b))) (sym e) (lone_connected t b))
      go (inr n') = across (omega arith)

  abbrev Can-go : Type 0
  Can-go = (i : ℕ) × (i < n) × Member s i × Connected t (bit_xor s (2 ^ i))

  within_more : (g q : ℕ) → Within g s → Member s q → Within (bit_xor g (2 ^ q)) s
  within_more g q w m j = go (cases_eq j q)
    where
      go : (j ≡ q) ⊎ (j ≢ q) → bit (bit_xor g (2 ^ q)) j ≤ bit s j
      go (inl e) = omega (arith, ap (bit s) e, bit_small (bit_xor g (2 ^ q)) j)
      go (inr d) = omega (arith, flip_other g q j d, w j)

  last-added : (turns g : ℕ) → g < 2 ^ n → Within g s → Connected t g → g ≢ s → n < turns + count n (bit g) → Can-go
  last-added zero g hg w cg ne enough = absurd (omega (arith, count_le n (bit g) (λ j l. bit_small g j)))
  last-added (suc turns) g hg w cg ne enough =
      go (next_of g hg w cg ne) (λ g' h w' cg' ne' m. last-added turns g' h w' cg' ne' m)
    where
      go : Next g → ((g' : ℕ) → g' < 2 ^ n → Within g' s → Connected t g' → g' ≢ s → n < turns + count n (bit g') → Can-go) → Can-go
      go (q, l, out, m, cq) rest = done (cases_eq (bit_xor g (2 ^ q)) s)
        where
          done : (bit_xor g (2 ^ q) ≡ s) ⊎ (bit_xor g (2 ^ q) ≢ s) → Can-go
          done (inl e) = (q, l, m, subst (Connected t) (sym (flip_twice g q) ∙ ap (λ x. bit_xor x (2 ^ q)) e) cg)
          done (inr d) =
              rest (bit_xor g (2 ^ q)) (flip_lt n g q hg l) (within_more g q w m) cq d
              (omega (arith, count_change n (bit (bit_xor g (2 ^ q))) (bit g) q l (λ j h x. flip_other g q j x), flip_same g q))

  pub can_go : s ≢ 0 → Can-go
  can_go some =
      last-added (suc n) 0 (pow_pos n) (λ j. omega (arith, bit_zero j)) (λ i j mi mj. absurd (omega (arith, bit_zero i))) (λ e. some (sym e))
      (omega arith)
