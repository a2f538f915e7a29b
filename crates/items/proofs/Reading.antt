-- What `part_at` gives at the end of a line, at a letter and at a space, and where the item begins.
use Rattle.std.proofs.Common.{◌≡◌, ℕ, ◌+◌, ◌-◌, ◌<◌, ◌≤◌, List, length, get_or, take, drop, ◌∙◌, arith}
use Rattle.std.specs.Char.{is_ascii_digit}
use Rattle.std.specs.List.{prefix_len}
use Rattle.std.proofs.lemmas.List.{at_drop_more, at_drop_all, take_rest}
use Rattle.std.proofs.lemmas.Bool.{eq-eqb, ne_eqb, cond-true, cond-false}
use Rattle.items.specs.Items.{letter, number, break, part_from, part_at, begins_from, begins_at}

pub item_end : (line : List ℕ) (at : ℕ) → length line ≤ at → part_at line at ≡ (break, at)
unfolding part_at
item_end line at h = at_drop_all (λ xs. part_from xs at) line at h

pub item_letter : (line : List ℕ) (at : ℕ) → at < length line → (get_or line at 0 ≡ 32 → ⊥)
    → part_at line at ≡ (letter (get_or line at 0), at + 1)
unfolding part_at
item_letter line at h ne =
    at_drop_more (λ xs. part_from xs at) line at 0 h ∙ cond-false _ _ _ (ne_eqb (get_or line at 0) 32 ne)

pub item_number : (line : List ℕ) (at : ℕ) → at < length line → get_or line at 0 ≡ 32
    → part_at line at
    ≡ (
      number (take (prefix_len is_ascii_digit (drop (at + 1) line)) (drop (at + 1) line)),
      at + 1 + prefix_len is_ascii_digit (drop (at + 1) line),
    )
unfolding part_at
item_number line at h e =
    at_drop_more (λ xs. part_from xs at) line at 0 h ∙ cond-true _ _ _ (eq-eqb (get_or line at 0) 32 e)

-- the same, of the parts that the code cuts out
pub item_cut : (line : List ℕ) (at n : ℕ) → at < length line → get_or line at 0 ≡ 32
    → n ≡ prefix_len is_ascii_digit (take (length line - (at + 1)) (drop (at + 1) line))
    → (number (take (n - 0) (take (length line - (at + 1)) (drop (at + 1) line))), at + 1 + n) ≡ part_at line at
item_cut line at n h e r =
    let whole = take_rest line (at + 1) in
    let same : n - 0 ≡ n = omega arith in
    let told = item_number line at h e in
    cc

pub begins_end : (line : List ℕ) (at : ℕ) → length line ≤ at → begins_at line at ≡ at
unfolding begins_at
begins_end line at h = at_drop_all (λ xs. begins_from xs at) line at h

pub begins_letter : (line : List ℕ) (at : ℕ) → at < length line → (get_or line at 0 ≡ 32 → ⊥) → begins_at line at ≡ at
unfolding begins_at
begins_letter line at h ne =
    at_drop_more (λ xs. begins_from xs at) line at 0 h
    ∙ cond-false {A = ℕ} _ (at + 1) at (ne_eqb (get_or line at 0) 32 ne)

pub begins_number : (line : List ℕ) (at : ℕ) → at < length line → get_or line at 0 ≡ 32 → begins_at line at ≡ at + 1
unfolding begins_at
begins_number line at h e =
    at_drop_more (λ xs. begins_from xs at) line at 0 h
    ∙ cond-true {A = ℕ} _ (at + 1) at (eq-eqb (get_or line at 0) 32 e)
