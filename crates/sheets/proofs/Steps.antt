-- What the definitions of reading come to once a test in them is known.
use Rattle.std.proofs.Common.{◌≡◌, ℕ, ◌+◌, Bool, true, false, List, ◌∷◌, Ok, Err, Result, sym, refl, ap, ◌∙◌}
use Rattle.refusals.specs.declared.Refusal.{Refusal}
use Rattle.refusals.specs.declared.Refusal.TheVariants.{LineOrder}
use Rattle.items.specs.Lines.{line_of, kind_of_line}
use Rattle.items.specs.Faults.{line_read}
use Rattle.items.specs.declared.item.Placed.{Placed}
use Rattle.items.specs.declared.line.Line.{Line}
use Rattle.items.proofs.Faults.{read_good, read_bad}
use Rattle.sheets.specs.Order.{follows, stopped}
use Rattle.sheets.specs.Reading.{Wanted, at_line, faulted, after_bytes, read_from}
use Rattle.sheets.specs.Settings.{Settings, set_by, after_line}
use Rattle.sheets.specs.declared.fault.Fault.{Fault}

by_order : Settings → Line → Bool → Result Settings Refusal
by_order s x t = elim t [ true ↦ set_by s x | false ↦ Err LineOrder ]

pub in_place : (s : Settings) (x : Line) → follows s.last (kind_of_line x) ≡ true → after_line s x ≡ set_by s x
unfolding after_line by_order
in_place s x e = ap (by_order s x) e

pub out_of_place : (s : Settings) (x : Line) → follows s.last (kind_of_line x) ≡ false → after_line s x ≡ Err LineOrder
unfolding after_line by_order
out_of_place s x e = ap (by_order s x) e

by_value : Settings → Result Line Refusal → Result Settings Refusal
by_value s r = elim r [ Ok x ↦ after_line s x | Err k ↦ Err k ]

-- the settings after a line's bytes without a fault's line
pub settled : Settings → List ℕ → Result Settings Refusal
settled s l =
    elim (stopped s.last) [
      | true ↦ Err LineOrder
      | false ↦ elim (line_of l) [ Ok x ↦ after_line s x | Err k ↦ Err k ]
    ]

by_stop : Settings → List ℕ → Bool → Result Settings Refusal
by_stop s l t = elim t [ true ↦ Err LineOrder | false ↦ by_value s (line_of l) ]

module _ (s : Settings) (l : List ℕ) where
  pub bytes_stopped : stopped s.last ≡ true → settled s l ≡ Err LineOrder
  unfolding settled by_stop by_value
  bytes_stopped e = ap (by_stop s l) e

  bytes-by-value : stopped s.last ≡ false → settled s l ≡ by_value s (line_of l)
  unfolding settled by_stop by_value
  bytes-by-value e = ap (by_stop s l) e

  pub bytes_bad : (k : Refusal) → stopped s.last ≡ false → line_of l ≡ Err k → settled s l ≡ Err k
  unfolding by_value
  bytes_bad k e f = bytes-by-value e ∙ ap (by_value s) f

  pub bytes_good : (x : Line) → stopped s.last ≡ false → line_of l ≡ Ok x → settled s l ≡ after_line s x
  unfolding by_value
  bytes_good x e f = bytes-by-value e ∙ ap (by_value s) f

by_place : Settings → Result (Placed Line) (Placed Refusal) → Result Settings Fault
by_place s r =
    elim r [
      | Ok x ↦ faulted (after_line s x.value) x.place.line
      | Err k ↦ Err (at_line k.value k.place.line)
    ]

by_end : Settings → List ℕ → ℕ → Bool → Result Settings Fault
by_end s l n t = elim t [ true ↦ Err (at_line LineOrder n) | false ↦ by_place s (line_read l n) ]

-- each place of a line is on that line
settled_at : (s : Settings) (l : List ℕ) (n : ℕ) → after_bytes s l n ≡ faulted (settled s l) n
unfolding after_bytes by_place by_end
settled_at s l n = go (stopped s.last) refl (line_of l) refl
  where
    to : Result Settings Refusal → Result Settings Fault
    to r = faulted r n

    go : (t : Bool) → stopped s.last ≡ t → (v : Result Line Refusal) → line_of l ≡ v → after_bytes s l n ≡ to (settled s l)
    go true f v g = ap (by_end s l n) f ∙ sym (ap to (bytes_stopped s l f))
    go false f (Ok x) g =
        ap (by_end s l n) f ∙ ap (by_place s) (read_good l n x g) ∙ sym (ap to (bytes_good s l x f g))
    go false f (Err k) g =
        ap (by_end s l n) f ∙ ap (by_place s) (read_bad l n k g) ∙ sym (ap to (bytes_bad s l k f g))

by_turn : ℕ → List (List ℕ) → List ℕ → Result Settings Fault → Result Wanted Fault
by_turn n ls r a = elim a [ Ok t ↦ read_from (n + 1) t ls r | Err f ↦ Err f ]

module _ (n : ℕ) (s : Settings) (l : List ℕ) (ls : List (List ℕ)) (r : List ℕ) where
  pub read_next : (t : Settings) → after_bytes s l n ≡ Ok t → read_from n s (l ∷ ls) r ≡ read_from (n + 1) t ls r
  unfolding read_from by_turn
  read_next t e = ap (by_turn n ls r) e

  pub read_ended : (f : Fault) → after_bytes s l n ≡ Err f → read_from n s (l ∷ ls) r ≡ Err f
  unfolding read_from by_turn
  read_ended f e = ap (by_turn n ls r) e

  pub read_on : (t : Settings) → settled s l ≡ Ok t → read_from n s (l ∷ ls) r ≡ read_from (n + 1) t ls r
  read_on t e = read_next t (settled_at s l n ∙ ap (λ (a : Result Settings Refusal). faulted a n) e)

  pub read_fault : (k : Refusal) → settled s l ≡ Err k → read_from n s (l ∷ ls) r ≡ Err (at_line k n)
  read_fault k e = read_ended (at_line k n) (settled_at s l n ∙ ap (λ (a : Result Settings Refusal). faulted a n) e)
