-- A byte of the code, read from the digits of one second corner after the other.
use Rattle.std.proofs.Common.{◌≡◌, ℕ, ◌+◌, ◌-◌, ◌*◌, ◌/◌, ◌%◌, ◌^◌, ◌<◌, ◌≤◌, Bool, true, false, ◌⊎◌, List, get_or, sym, refl, ap, ◌∙◌, inl, inr, mod-lt, arith}
use lib.Bits.{bit_or}
use Rattle.std.proofs.lemmas.Nat.{pow_pos}
use Rattle.std.proofs.lemmas.Bool.{cases_lt}
use Rattle.digits.proofs.Digits.{bit-or, bit_mod, bit_mod_past, same_bits, bit_zero}
use Rattle.digits.specs.Bits.{bit}
use Rattle.pairs.proofs.Numbers.{pair_count_more, pair_count_mono, number_below}
use Rattle.pairs.specs.Pairs.{pair_count, number, corners_of}
use Rattle.triangulations.proofs.Bytes.{part_less, code_byte, members_code}
use Rattle.triangulations.proofs.Edges.{diagonal_numbered}
use Rattle.triangulations.proofs.Tests.{diagonal_decides}
use Rattle.triangulations.specs.Codes.{members, byte_of, code_of}
use Rattle.triangulations.specs.Polygon.{is_diagonal}
use Rattle.triangulations.specs.Textbook.{PairSet}
use Rattle.polygon.proofs.Crossings.{bit_shl_high, bit_shl_low}
use Rattle.polygon.proofs.Ends.{end_in, end_out}
use Rattle.polygon.proofs.Gathering.{first_of, first_under, first_over}
use Rattle.polygon.proofs.Holding.{set_of_out}
use Rattle.polygon.proofs.Words.{bit_shr}
use Rattle.polygon.specs.Laws.{set_of_small, set_of_past}
use Rattle.polygon.specs.Rows.{set_of, end_of}

module _ (n : ℕ) (rows : List ℕ) where
  -- no pair from the width on is in the set
  past-width : (e : ℕ) → pair_count n ≤ e → set_of n rows e ≡ 0
  past-width e h = go (is_diagonal n (corners_of e)) refl
    where
      go : (t : Bool) → is_diagonal n (corners_of e) ≡ t → set_of n rows e ≡ 0
      go true k =
          let d = (diagonal_decides n (corners_of e)).0 k in
          absurd (omega (arith, (diagonal_numbered n e d).1, number_below (corners_of e).0 (corners_of e).1 n d.0 d.1))
      go false k = set_of_out n rows e k

  -- ---- a byte is known by its digits

  byte_less : (k : ℕ) → byte_of (set_of n rows) k < 2 ^ 8
  unfolding byte_of
  byte_less k = part_less (set_of n rows) (set_of_small n rows) k 8

  byte_digit : (k i : ℕ) → k < 35 → i < 8 → bit (byte_of (set_of n rows) k) i ≡ set_of n rows (8 * k + i)
  unfolding members
  byte_digit k i l h =
      let p : (8 * k + i) / 8 ≡ k = omega arith in
      let q : (8 * k + i) % 8 ≡ i = omega arith in
      let v = code_of (set_of n rows) in
      ap (λ (x : ℕ). bit x i) (sym (code_byte (set_of n rows) k l))
      ∙ ap (λ (x : ℕ). bit (get_or v k 0) x) (sym q) ∙ ap (λ (x : ℕ). bit (get_or v x 0) ((8 * k + i) % 8)) (sym p)
      ∙ ap (λ (T : PairSet). T (8 * k + i)) (members_code (set_of n rows) (set_of_small n rows) (set_of_past n rows))

  byte-from : (k x : ℕ) → k < 35 → x < 2 ^ 8 → ((i : ℕ) → i < 8 → bit x i ≡ set_of n rows (8 * k + i)) → x ≡ byte_of (set_of n rows) k
  byte-from k x l h each =
      same_bits 8 x (byte_of (set_of n rows) k) h (byte_less k) (λ i m. each i m ∙ sym (byte_digit k i l m))

  pub byte_none : (k : ℕ) → k < 35 → pair_count n ≤ 8 * k → 0 ≡ byte_of (set_of n rows) k
  byte_none k l h = byte-from k 0 l (omega arith) (λ i _. bit_zero i ∙ sym (past-width (8 * k + i) (omega arith)))

  -- ---- the digits read so far

  -- the pairs from number 8 k to number e are read
  abbrev pub Read : ℕ → ℕ → ℕ → Type 0
  Read k e digits = (i : ℕ) → bit digits i ≡ first_of (set_of n rows) e (8 * k + i)

  -- the digits of a second corner are the pairs up to the next one's
  end-first : (b x : ℕ) → end_of n rows b x ≡ first_of (set_of n rows) (pair_count (b + 1)) (pair_count b + x)
  unfolding number
  end-first b x = go (cases_lt x b)
    where
      go : (x < b) ⊎ (b ≤ x) → end_of n rows b x ≡ first_of (set_of n rows) (pair_count (b + 1)) (pair_count b + x)
      go (inl h) =
          end_in n rows b x h
          ∙ sym (first_under (set_of n rows) (pair_count (b + 1)) (pair_count b + x) (omega (arith, pair_count_more b)))
      go (inr h) =
          end_out n rows b x h
          ∙ sym (first_over (set_of n rows) (pair_count (b + 1)) (pair_count b + x) (omega (arith, pair_count_more b)))

  module _ (k b w : ℕ) (ends : (x : ℕ) → bit w x ≡ end_of n rows b x) where
    pub read_start : (a : ℕ) → number a b ≡ 8 * k → Read k (pair_count (b + 1)) (w / 2 ^ a)
    unfolding number
    read_start a at i =
        let e : pair_count b + (a + i) ≡ 8 * k + i = omega arith in
        bit_shr w a i ∙ ends (a + i) ∙ end-first b (a + i) ∙ ap (first_of (set_of n rows) (pair_count (b + 1))) e

    module _ (read digits : ℕ) (few : read < 8) (small : b < 24) (at : pair_count b ≡ 8 * k + read) (so_far : Read k (pair_count b) digits) where
      shifted : ℕ
      shifted = (w * 2 ^ read) % 2 ^ 32

      next : (i : ℕ) → (i < read) ⊎ (read ≤ i) → (i < 32) ⊎ (32 ≤ i) → bit (bit_or digits shifted) i ≡ first_of (set_of n rows) (pair_count (b + 1)) (8 * k + i)
      unfolding shifted
      next i (inl h) m =
          omega (
            arith,
            bit-or digits shifted i,
            bit_mod 32 (w * 2 ^ read) i (omega arith),
            bit_shl_low w read i h,
            so_far i,
            first_under (set_of n rows) (pair_count b) (8 * k + i) (omega arith),
            first_under (set_of n rows) (pair_count (b + 1)) (8 * k + i) (omega (arith, pair_count_more b)),
          )
      next i (inr h) (inl m) =
          let e : read + (i - read) ≡ i = omega arith in
          let f : pair_count b + (i - read) ≡ 8 * k + i = omega arith in
          omega (
            arith,
            bit-or digits shifted i,
            bit_mod 32 (w * 2 ^ read) i m,
            ap (bit (w * 2 ^ read)) e,
            bit_shl_high w read (i - read),
            ends (i - read),
            end-first b (i - read),
            ap (first_of (set_of n rows) (pair_count (b + 1))) f,
            so_far i,
            first_over (set_of n rows) (pair_count b) (8 * k + i) (omega arith),
          )
      next i (inr h) (inr m) =
          omega (
            arith,
            bit-or digits shifted i,
            bit_mod_past 32 (w * 2 ^ read) i m,
            so_far i,
            first_over (set_of n rows) (pair_count b) (8 * k + i) (omega arith),
            first_over (set_of n rows) (pair_count (b + 1)) (8 * k + i) (omega (arith, pair_count_more b)),
          )

      pub read_more : Read k (pair_count (b + 1)) (bit_or digits ((w * 2 ^ read) % 2 ^ 32))
      unfolding shifted
      read_more i = next i (cases_lt i read) (cases_lt i 32)

  pub read_done : (k b read digits : ℕ) → k < 35 → pair_count b ≡ 8 * k + read → Read k (pair_count b) digits → (8 ≤ read) ⊎ (n ≤ b)
      → digits % 2 ^ 8 ≡ byte_of (set_of n rows) k
  read_done k b read digits l at so_far end =
      byte-from k (digits % 2 ^ 8) l (mod-lt digits (pow_pos 8))
      (λ i h. bit_mod 8 digits i h ∙ so_far i ∙ whole i h end (cases_lt (8 * k + i) (pair_count b)))
    where
      whole : (i : ℕ) → i < 8 → (8 ≤ read) ⊎ (n ≤ b) → (8 * k + i < pair_count b) ⊎ (pair_count b ≤ 8 * k + i)
          → first_of (set_of n rows) (pair_count b) (8 * k + i) ≡ set_of n rows (8 * k + i)
      whole i h e (inl m) = first_under (set_of n rows) (pair_count b) (8 * k + i) m
      whole i h (inl e) (inr m) = absurd (omega arith)
      whole i h (inr e) (inr m) =
          first_over (set_of n rows) (pair_count b) (8 * k + i) m ∙ sym (past-width (8 * k + i) (omega (arith, pair_count_mono n b e)))
