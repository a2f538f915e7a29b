-- Words: what the program's shifts and low digits say of sets.
use Rattle.std.proofs.Common.{◌≡◌, ℕ, ◌*◌, ◌/◌, ◌^◌, ◌<◌, Bool, true, false, eqb, ltb, refl, sym, ap, lt_of_lt_of_le, arith, pow_pos, pow_mono}
use native.Mathlib.Nat.{div-eq_of_lt}
use Rattle.std.specs.Prelude.{if◌then◌else◌}
use Rattle.std.proofs.lemmas.Nat.{shr_split, mod_below}
use Rattle.std.proofs.lemmas.Bool.{eqb-true, eq-eqb, lt-ltb, ltb-false}
use Rattle.std.proofs.lemmas.Bool.Decides.{same_from_decides, Decides-ltb}

-- nothing is left of a number shifted past its digits
shifted_out : (s n : ℕ) → eqb (s / 2 ^ n) 0 ≡ ltb s (2 ^ n)
shifted_out s n = same_from_decides (eqb (s / 2 ^ n) 0) (ltb s (2 ^ n)) (to, from) (Decides-ltb s (2 ^ n))
  where
    to : eqb (s / 2 ^ n) 0 ≡ true → s < 2 ^ n
    to e = omega (arith, eqb-true (s / 2 ^ n) 0 e, shr_split s n, mod_below s (2 ^ n) (pow_pos n), ap (λ q. q * 2 ^ n) (eqb-true (s / 2 ^ n) 0 e))

    from : s < 2 ^ n → eqb (s / 2 ^ n) 0 ≡ true
    from h = eq-eqb (s / 2 ^ n) 0 (div-eq_of_lt h)

-- nothing is left of a word shifted past its digits, where a shift by 64 or more leaves 0
pub word_within : (s n : ℕ) → s < 2 ^ 64 → eqb (if ltb n 64 then s / 2 ^ n else 0) 0 ≡ ltb s (2 ^ n)
word_within s n h = go (ltb n 64) refl
  where
    go : (b : Bool) → ltb n 64 ≡ b → eqb (if b then s / 2 ^ n else 0) 0 ≡ ltb s (2 ^ n)
    go true _ = shifted_out s n
    go false e = sym (lt-ltb s (2 ^ n) (lt_of_lt_of_le h (pow_mono (ltb-false n 64 e))))
