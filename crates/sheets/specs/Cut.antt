-- A sheet cut into its finished lines, each without its byte 10, and what follows the last of them.
use Rattle.std.specs.Prelude.{ℕ, true, false, not, List, [], ◌∷◌, ◌==◌}
use Rattle.std.specs.List.{prefix_len}

pub record Cut : Type 0 where
  pub lines : List (List ℕ)
  pub rest : List ℕ

-- one byte in front of a cut sheet
abbrev pub in_front : ℕ → List (List ℕ) → List ℕ → Cut
in_front b [] r = record { lines = []; rest = b ∷ r }
in_front b (l ∷ ls) r = record { lines = (b ∷ l) ∷ ls; rest = r }

unfoldable pub cut : List ℕ → Cut
cut [] = record { lines = []; rest = [] }
cut (b ∷ bs) =
    elim (b == 10) [
      | true ↦ record { lines = [] ∷ (cut bs).lines; rest = (cut bs).rest }
      | false ↦ in_front b (cut bs).lines (cut bs).rest
    ]

-- how many bytes stand before the first byte 10
abbrev pub line_length : List ℕ → ℕ
line_length bs = prefix_len (λ b. not (b == 10)) bs
