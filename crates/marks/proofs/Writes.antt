-- What the writes to parts of a block leave.
use Rattle.std.proofs.Common.{◌≡◌, ℕ, ◌≤◌, Bool, true, false, ltb, List, ◌++◌, length, take, drop, replicate, Ok, Err, Result, sym, ap, ◌∙◌, arith}
use borrow.Rule.Slice.PartMut.{put_mid}
use Rattle.std.proofs.lemmas.List.{append_assoc, append-nil, length-append, length-replicate, take_at, drop_at, drop-drop, drop-replicate, take-replicate}
use Rattle.std.proofs.lemmas.Bool.{le-ltb}
use Rattle.refusals.specs.declared.Refusal.{Refusal}
use Rattle.refusals.specs.declared.Refusal.TheVariants.{BufferShort}
use Rattle.oracle.specs.Calls.{written}
use Rattle.oracle.specs.Setup.{Code, Setup}
use Rattle.marks.specs.Layout.{padded, placed}

-- a code put over zeros
pub put_zeros : (s : Setup) (v : Code) (bytes out : List ℕ) (r : Result (Unit {0}) Refusal) → (r, out) ≡ written s v bytes → bytes ≡ replicate 500 0 → s.size ≤ 500 → out ≡ padded s v
put_zeros s v bytes out r e zeros le =
    let n : length bytes ≡ 500 = ap length zeros ∙ length-replicate {A = ℕ} 500 0 in
    ap (λ p. p.1) (e ∙ long (ltb (length bytes) s.size) (le-ltb (length bytes) s.size (omega arith)))
    ∙ ap (λ t. v ++ drop s.size t) zeros
    ∙ ap (v ++◌) (drop-replicate s.size 500 0)
  where
    put_if : Bool → Result (Unit {0}) Refusal × List ℕ
    put_if b = elim b [ true ↦ (Err BufferShort, bytes) | false ↦ (Ok tt, v ++ drop s.size bytes) ]

    long : (b : Bool) → b ≡ false → put_if b ≡ put_if false
    long b f = ap put_if f

abbrev pub zeros : List ℕ
zeros = replicate 512 0

-- what stands behind the head that was put over zeros
pub behind : (front : List ℕ) → length front ≡ 8 → take 500 (drop 8 (front ++ drop 8 zeros)) ≡ replicate 500 0
behind front m =
    ap (take 500) (drop_at front (drop 8 zeros) 8 m ∙ drop-replicate 8 512 0)
    ∙ take-replicate 500 504 0 (omega arith)

-- the code put behind the head, and the check over the last four bytes
module _ (front code stamp : List ℕ) (m : length front ≡ 8) (n : length code ≡ 500) where
  pub laid : put_mid 8 500 (front ++ drop 8 zeros) code ≡ (front ++ code) ++ drop 508 zeros
  laid =
      ap (λ t. t ++ (code ++ drop 500 (drop 8 (front ++ drop 8 zeros)))) (take_at front (drop 8 zeros) 8 m)
      ∙ ap (λ t. front ++ (code ++ drop 500 t)) (drop_at front (drop 8 zeros) 8 m)
      ∙ ap (λ t. front ++ (code ++ t)) (drop-drop 500 8 zeros)
      ∙ sym (append_assoc front code (drop 508 zeros))

  whole : length (front ++ code) ≡ 508
  whole = length-append front code ∙ omega (arith, m, n)

  pub checked : take 508 (put_mid 8 500 (front ++ drop 8 zeros) code) ≡ front ++ code
  checked = ap (take 508) laid ∙ take_at (front ++ code) (drop 508 zeros) 508 whole

  pub stamped : put_mid 508 4 (put_mid 8 500 (front ++ drop 8 zeros) code) stamp ≡ (front ++ code) ++ stamp
  stamped =
      ap (λ t. put_mid 508 4 t stamp) laid
      ∙ ap (λ t. t ++ (stamp ++ drop 4 (drop 508 ((front ++ code) ++ drop 508 zeros)))) (take_at (front ++ code) (drop 508 zeros) 508 whole)
      ∙ ap (λ t. (front ++ code) ++ (stamp ++ drop 4 t)) (drop_at (front ++ code) (drop 508 zeros) 508 whole)
      ∙ ap (λ t. (front ++ code) ++ (stamp ++ t)) (ap (drop 4) (drop-replicate 508 512 0) ∙ drop-replicate 4 4 0)
      ∙ ap (λ t. (front ++ code) ++ t) (append-nil stamp)

-- a block at the front of a buffer
pub fronted : (row buffer : List ℕ) → 512 ≤ length buffer → (Ok tt, row ++ drop 512 buffer) ≡ placed (ltb (length buffer) 512) row buffer
fronted row buffer le = sym (ap (λ b. placed b row buffer) (le-ltb (length buffer) 512 le))
