-- The rows of the fan, made from those of the sides by one diagonal after the other: after the corners below b.
use Rattle.std.proofs.Common.{◌≡◌, ℕ, ◌+◌, ◌-◌, ◌<◌, ◌≤◌, cond, ltb, ◌⊎◌, List, length, sym, ap, ◌∙◌, inl, inr, arith}
use Rattle.std.proofs.lemmas.Bool.{cases_lt, cases_eq, cases_order, cond-true, cond-false, lt-ltb, le-ltb}
use Rattle.pairs.specs.Pairs.{number, corners_of}
use Rattle.triangulations.proofs.Drawing.{corners_pair}
use Rattle.triangulations.proofs.Drawings.{digit_cases}
use Rattle.triangulations.proofs.Edges.{diagonal_numbered, diagonal_from, inner}
use Rattle.triangulations.proofs.Fans.{fan_spoke, fan_in, fan_small}
use Rattle.triangulations.specs.Moves.{fan}
use Rattle.triangulations.specs.Polygon.{Diagonal}
use Rattle.triangulations.specs.Textbook.{PairSet}
use Rattle.polygon.proofs.Ties.{turned, turned_here, turned_else, switch_tied}
use Rattle.polygon.specs.Rows.{Tied, bare, switched}
use Rattle.polygon.proofs.Agreement.{Agree, tied_same}

pub fan_below : ℕ → ℕ → PairSet
fan_below n b e = cond (ltb (corners_of e).1 b) (fan n e) 0

fan_under : (n b e : ℕ) → (corners_of e).1 < b → fan_below n b e ≡ fan n e
unfolding fan_below
fan_under n b e h = cond-true (ltb (corners_of e).1 b) (fan n e) 0 (lt-ltb (corners_of e).1 b h)

fan_over : (n b e : ℕ) → b ≤ (corners_of e).1 → fan_below n b e ≡ 0
unfolding fan_below
fan_over n b e h = cond-false (ltb (corners_of e).1 b) (fan n e) 0 (le-ltb (corners_of e).1 b h)

no_fan : (n e : ℕ) → (fan n e ≡ 1 → ⊥) → fan n e ≡ 0
no_fan n e h = go (digit_cases (fan n e) (fan_small n e))
  where
    go : (fan n e ≡ 0) ⊎ (fan n e ≡ 1) → fan n e ≡ 0
    go (inl z) = z
    go (inr o) = absurd (h o)

pub fan_start : (n : ℕ) → Agree n bare (fan_below n 2)
unfolding bare
fan_start n e d = go (cases_lt (corners_of e).1 2)
  where
    go : ((corners_of e).1 < 2) ⊎ (2 ≤ (corners_of e).1) → 0 ≡ fan_below n 2 e
    go (inl h) = absurd (omega (arith, (inner n (corners_of e) d).wide))
    go (inr h) = sym (fan_over n 2 e h)

pub fan_end : (n : ℕ) → Agree n (fan_below n (n - 1)) (fan n)
fan_end n e d = go (cases_lt (corners_of e).1 (n - 1))
  where
    go : ((corners_of e).1 < n - 1) ⊎ (n - 1 ≤ (corners_of e).1) → fan_below n (n - 1) e ≡ fan n e
    go (inl h) = fan_under n (n - 1) e h
    go (inr h) =
        fan_over n (n - 1) e h ∙ sym (no_fan n e (λ m. omega (arith, (inner n (corners_of e) d).cut, (fan_spoke n e m).1)))

spoke : (n b : ℕ) → 2 ≤ b → b < n - 1 → Diagonal n (0, b)
spoke n b h l = diagonal_from n 0 b (record { wide = omega arith; within = omega arith; cut = inr l })

fan_turn : (n b : ℕ) → n ≤ 24 → 2 ≤ b → b < n - 1 → Agree n (turned (fan_below n b) (number 0 b)) (fan_below n (b + 1))
fan_turn n b few h l e d = go (cases_eq e (number 0 b))
  where
    at : corners_of (number 0 b) ≡ (0, b)
    at = corners_pair n bare few 0 b (omega arith) (omega arith)

    other : (e ≡ number 0 b → ⊥) → (corners_of e).1 ≡ b → fan n e ≡ 1 → ⊥
    other ne q m =
        ne (sym (diagonal_numbered n e d).1 ∙ ap (λ (x : ℕ). number x (corners_of e).1) (fan_spoke n e m).1 ∙ ap (number 0) q)

    away : (e ≡ number 0 b → ⊥) → ((corners_of e).1 ≡ b) ⊎ (((corners_of e).1 < b) ⊎ (b < (corners_of e).1)) → fan_below n b e ≡ fan_below n (b + 1) e
    away ne (inl q) = fan_over n b e (omega arith) ∙ sym (fan_under n (b + 1) e (omega arith) ∙ no_fan n e (other ne q))
    away ne (inr (inl q)) = fan_under n b e q ∙ sym (fan_under n (b + 1) e (omega arith))
    away ne (inr (inr q)) = fan_over n b e (omega arith) ∙ sym (fan_over n (b + 1) e (omega arith))

    go : (e ≡ number 0 b) ⊎ (e ≡ number 0 b → ⊥) → turned (fan_below n b) (number 0 b) e ≡ fan_below n (b + 1) e
    go (inl q) =
        let c1 : (corners_of e).1 ≡ b = ap (λ (x : ℕ). (corners_of x).1) q ∙ ap (λ (x : ℕ × ℕ). x.1) at in
        let c0 : (corners_of e).0 ≡ 0 = ap (λ (x : ℕ). (corners_of x).0) q ∙ ap (λ (x : ℕ × ℕ). x.0) at in
        turned_here (fan_below n b) (number 0 b) e q ∙ ap (λ (x : ℕ). 1 - x) (fan_over n b e (omega arith))
        ∙ sym (fan_under n (b + 1) e (omega arith) ∙ fan_in n e (d, c0))
    go (inr q) = turned_else (fan_below n b) (number 0 b) e q ∙ away q (cases_order (corners_of e).1 b)

pub fan_more : (n b : ℕ) (rows : List ℕ) → n ≤ 24 → 2 ≤ b → b < n - 1 → length rows ≡ 24 → Tied n (fan_below n b) rows
    → Tied n (fan_below n (b + 1)) (switched rows 0 b)
fan_more n b rows few h l long tie =
    tied_same n (turned (fan_below n b) (number 0 b)) (fan_below n (b + 1)) few (fan_turn n b few h l) (switched rows 0 b)
    (switch_tied n (fan_below n b) rows 0 b few long (spoke n b h l) tie)
