-- The rows of the sides alone.
use Rattle.std.proofs.Common.{◌≡◌, ℕ, ◌+◌, ◌-◌, ◌^◌, ◌<◌, ◌≤◌, ◌⊎◌, List, length, get_or, sym, ap, ◌∙◌, inl, inr, arith}
use lib.Bits.{bit_or}
use Rattle.std.proofs.lemmas.List.{get_or_past}
use Rattle.std.proofs.lemmas.Bool.{cases_lt, cases_eq}
use Rattle.digits.proofs.Digits.{bit-or, bit_pow_same, bit_pow_other, bit_small, bit_zero}
use Rattle.digits.specs.Bits.{bit}
use Rattle.triangulations.proofs.Edges.{Kind, kind, a_side, a_diagonal, no_pair, edge_side, edge_member, edge_none, joined_up, joined_down}
use Rattle.triangulations.specs.Moves.{edge, joined}
use Rattle.triangulations.specs.Polygon.{Side}
use Rattle.polygon.specs.Rows.{linked, Tied, bare}
use Rattle.polygon.proofs.Agreement.{joined_past}

bare_edge : (n a b : ℕ) → (Side n (a, b) → ⊥) → edge n bare a b ≡ 0
unfolding bare
bare_edge n a b h = go (kind n a b)
  where
    go : Kind n a b → edge n bare a b ≡ 0
    go (a_side l m s) = absurd (h s)
    go (a_diagonal d) = edge_member n bare a b d
    go (no_pair l) = edge_none n bare a b l

-- the corners before and after a
abbrev pub Before : ℕ → ℕ → ℕ → Type 0
Before n a p = ((a ≡ 0) × (p ≡ n - 1)) ⊎ ((0 < a) × (p + 1 ≡ a))

abbrev pub After : ℕ → ℕ → ℕ → Type 0
After n a q = ((a + 1 ≡ n) × (q ≡ 0)) ⊎ ((a + 1 < n) × (q ≡ a + 1))

module _ (n a p q : ℕ) (large : 3 ≤ n) (in-n : a < n) (before : Before n a p) (after : After n a q) where
  joined-before : joined n bare a p ≡ 1
  joined-before = go before
    where
      go : Before n a p → joined n bare a p ≡ 1
      go (inl w) =
          joined_up n bare a p (omega arith) ∙ edge_side n bare a p (omega arith) (omega arith) (inr (w.0, w.1))
      go (inr w) =
          joined_down n bare a p (omega arith) ∙ edge_side n bare p a (omega arith) (omega arith) (inl (omega arith))

  joined-after : joined n bare a q ≡ 1
  joined-after = go after
    where
      go : After n a q → joined n bare a q ≡ 1
      go (inl w) =
          joined_down n bare a q (omega arith) ∙ edge_side n bare q a (omega arith) (omega arith) (inr (w.1, omega arith))
      go (inr w) = joined_up n bare a q (omega arith) ∙ edge_side n bare a q (omega arith) (omega arith) (inl w.1)

  joined-else : (b : ℕ) → (b ≡ p → ⊥) → (b ≡ q → ⊥) → joined n bare a b ≡ 0
  unfolding joined
  joined-else b h k = go (cases_lt b n)
    where
      up : b < n → Side n (a, b) → ⊥
      up l (inl s) = k (omega (arith, after))
      up l (inr s) = h (omega (arith, before))

      down : b < n → Side n (b, a) → ⊥
      down l (inl s) = h (omega (arith, before))
      down l (inr s) = k (omega (arith, after))

      go : (b < n) ⊎ (n ≤ b) → edge n bare a b + edge n bare b a ≡ 0
      go (inl l) = omega (arith, bare_edge n a b (up l), bare_edge n b a (down l))
      go (inr l) = omega (arith, edge_none n bare a b (λ x y. omega arith), edge_none n bare b a (λ x y. omega arith))

  pub side_row_bits : (b : ℕ) → bit (bit_or (2 ^ p) (2 ^ q)) b ≡ joined n bare a b
  side_row_bits b = go (cases_eq b p) (cases_eq b q)
    where
      go : (b ≡ p) ⊎ (b ≡ p → ⊥) → (b ≡ q) ⊎ (b ≡ q → ⊥) → bit (bit_or (2 ^ p) (2 ^ q)) b ≡ joined n bare a b
      go (inl h) k =
          omega
          (arith, bit-or (2 ^ p) (2 ^ q) b, ap (bit (2 ^ p)) h, bit_pow_same p, bit_small (2 ^ q) b, ap (joined n bare a) h, joined-before)
      go (inr h) (inl k) =
          omega
          (arith, bit-or (2 ^ p) (2 ^ q) b, ap (bit (2 ^ q)) k, bit_pow_same q, bit_small (2 ^ p) b, ap (joined n bare a) k, joined-after)
      go (inr h) (inr k) = omega (arith, bit-or (2 ^ p) (2 ^ q) b, bit_pow_other p b h, bit_pow_other q b k, joined-else b h k)

pub side_row_past : (n a : ℕ) → n ≤ a → (b : ℕ) → bit 0 b ≡ joined n bare a b
side_row_past n a h b = bit_zero b ∙ sym (joined_past n bare a b h)

pub side_rows_tied : (n : ℕ) (rows : List ℕ) → n ≤ 24 → length rows ≡ 24 → ((x : ℕ) → x < 24 → (b : ℕ) → bit (get_or rows x 0) b ≡ joined n bare x b) → Tied n bare rows
side_rows_tied n rows few long each x y = go (cases_lt x 24)
  where
    go : (x < 24) ⊎ (24 ≤ x) → linked rows x y ≡ joined n bare x y
    go (inl h) = each x h y
    go (inr h) = ap (λ (z : ℕ). bit z y) (get_or_past rows x 0 (omega arith)) ∙ side_row_past n x (omega arith) y
