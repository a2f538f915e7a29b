-- A code written byte by byte.
use Rattle.std.proofs.Common.{◌≡◌, ℕ, ◌+◌, ◌<◌, ◌≤◌, Bool, true, false, ◌⊎◌, List, ◌++◌, length, get_or, drop, replicate, set, Ok, Err, sym, ap, ◌∙◌, inl, inr, arith}
use Rattle.std.proofs.lemmas.List.{get_or-set_same, get_or-set_other, length-set, get_or-replicate, length-replicate, get_or_past}
use Rattle.std.proofs.lemmas.List.FromFn.{fill_by_all}
use Rattle.std.proofs.lemmas.Bool.{cases_lt, cases_eq, le-ltb}
use Rattle.oracle.specs.Calls.{written}
use Rattle.refusals.specs.declared.Refusal.TheVariants.{BufferShort}
use Rattle.triangulations.specs.Census.{polygon}
use Rattle.triangulations.specs.Codes.{byte_of, code_of}
use Rattle.triangulations.specs.Textbook.{PairSet}

-- the bytes below k are written, the others are still 0
pub record Written (S : PairSet) (k : ℕ) (bytes : List ℕ) : Type 0 where
  pub long : length bytes ≡ 35
  pub below : (i : ℕ) → i < k → get_or bytes i 0 ≡ byte_of S i
  pub above : (i : ℕ) → k ≤ i → get_or bytes i 0 ≡ 0

pub written_start : (S : PairSet) → Written S 0 (replicate 35 0)
written_start S =
    record { long = length-replicate {A = ℕ} 35 0; below = λ i h. absurd (omega arith); above = λ i h. go i (cases_lt i 35) }
  where
    go : (i : ℕ) → (i < 35) ⊎ (35 ≤ i) → ◌≡◌ {A = ℕ} (get_or (replicate 35 0) i 0) 0
    go i (inl l) = get_or-replicate 35 i 0 0 l
    go i (inr l) = get_or_past (replicate 35 0) i 0 (omega (arith, length-replicate {A = ℕ} 35 0))

pub written_more : (S : PairSet) (k y : ℕ) (bytes : List ℕ) → k < 35 → Written S k bytes → y ≡ byte_of S k → Written S (k + 1) (set bytes k y)
written_more S k y bytes l d e =
    record {
      long = length-set bytes k y ∙ d.long;
      below = λ i h. go i h (cases_eq i k);
      above = λ i h. get_or-set_other bytes k i y 0 (λ q. omega arith) ∙ d.above i (omega arith);
    }
  where
    in_bytes : k < length bytes
    in_bytes = omega (arith, d.long)

    go : (i : ℕ) → i < k + 1 → (i ≡ k) ⊎ (i ≡ k → ⊥) → get_or (set bytes k y) i 0 ≡ byte_of S i
    go i h (inl q) = ap (λ (z : ℕ). get_or (set bytes k y) z 0) q ∙ get_or-set_same bytes k y 0 in_bytes ∙ e ∙ ap (byte_of S) (sym q)
    go i h (inr q) = get_or-set_other bytes k i y 0 q ∙ d.below i (omega arith)

pub written_done : (S : PairSet) (k : ℕ) (bytes : List ℕ) → Written S k bytes → ((i : ℕ) → i < 35 → k ≤ i → 0 ≡ byte_of S i) → bytes ≡ code_of S
unfolding code_of
written_done S k bytes d none = fill_by_all (byte_of S) bytes 35 0 d.long (λ i h. go i h (cases_lt i k))
  where
    go : (i : ℕ) → i < 35 → (i < k) ⊎ (k ≤ i) → get_or bytes i 0 ≡ byte_of S i
    go i h (inl l) = d.below i l
    go i h (inr l) = d.above i l ∙ none i h l

pub put_done : (n : ℕ) (S : PairSet) (code bytes₀ : List ℕ) → 35 ≤ length bytes₀ → code ≡ code_of S → (Ok tt, code ++ drop 35 bytes₀) ≡ written (polygon n) (code_of S) bytes₀
put_done n S code bytes₀ l e =
    ap (λ (x : List ℕ). (Ok tt, x ++ drop 35 bytes₀)) e
    ∙ sym (ap (λ (b : Bool). elim b [ true ↦ (Err BufferShort, bytes₀) | false ↦ (Ok tt, code_of S ++ drop 35 bytes₀) ]) (le-ltb (length bytes₀) 35 l))
