-- How chains are carried over, joined and turned round.
use Rattle.std.proofs.Common.{◌≡◌, ℕ, ◌⊎◌, List, ◌∙◌, inl, inr, arith}
use Rattle.digits.specs.Bits.{bit}
use Rattle.digits.proofs.Digits.{bit_cases}
use Rattle.maps.specs.Touch.{touches, Mutual}
use Rattle.connected.specs.Connected.{Member, Within, Chain, here, onward}
use Rattle.connected.proofs.Subsets.{member_within}

pub chain_within : {t : List ℕ} {g : ℕ} (s : ℕ) {i j : ℕ} → Within g s → Chain t g i j → Chain t s i j
chain_within {g = g} s w (here {i = i} m) = here (member_within g s i w m)
chain_within {g = g} s w (onward {k = k} c e m) = onward (chain_within s w c) e (member_within g s k w m)

pub chain_last : {t : List ℕ} {s i j : ℕ} → Chain t s i j → Member s j
chain_last (here m) = m
chain_last (onward c e m) = m

pub chain_join : {t : List ℕ} {s i j k : ℕ} → Chain t s i j → Chain t s j k → Chain t s i k
chain_join b (here m) = b
chain_join b (onward c e m) = onward (chain_join b c) e m

-- touching is mutual, so a chain can be gone back
pub chain_back : {t : List ℕ} {s i j : ℕ} → Mutual t → Chain t s i j → Chain t s j i
chain_back both (here m) = here m
chain_back both (onward {j = j} {k = k} c e m) =
    chain_join (onward (here m) (both k j ∙ e) (chain_last c)) (chain_back both c)

-- where g takes in each member of s that touches one of its own, a chain does not leave it
pub chain_kept : {t : List ℕ} {s i j : ℕ} (g : ℕ)
    → ((p q : ℕ) → Member g p → touches t p q ≡ 1 → Member s q → Member g q)
    → Member g i → Chain t s i j → Member g j
chain_kept g closed a (here m) = a
chain_kept g closed a (onward {j = p} {k = q} c e m) = closed p q (chain_kept g closed a c) e m

-- a chain that leaves g has a link across
pub chain_leaves : {t : List ℕ} {s i j : ℕ} (g : ℕ) → Member g i → bit g j ≡ 0 → Chain t s i j
    → (p : ℕ) × (q : ℕ) × Member g p × (bit g q ≡ 0) × (touches t p q ≡ 1) × Member s q
chain_leaves g a out (here m) = absurd (omega arith)
chain_leaves {t} {s} g a out (onward {j = p} {k = q} c e m) = go (bit_cases g p) (λ z. chain_leaves g a z c)
  where
    go : (bit g p ≡ 0) ⊎ (bit g p ≡ 1)
        → (bit g p ≡ 0 → (p : ℕ) × (q : ℕ) × Member g p × (bit g q ≡ 0) × (touches t p q ≡ 1) × Member s q)
        → (p : ℕ) × (q : ℕ) × Member g p × (bit g q ≡ 0) × (touches t p q ≡ 1) × Member s q
    go (inl z) earlier = earlier z
    go (inr o) earlier = (p, q, o, out, e, m)
