-- The items of one finished line: a number is the digits that stand behind a space, be they none, any other
-- byte is a letter, and behind the last byte stands the line break.
use Rattle.std.specs.Prelude.{ℕ, zero, suc, ◌+◌, cond, List, [], ◌∷◌, take, drop, ◌==◌}
use Rattle.std.specs.Char.{is_ascii_digit}
use Rattle.std.specs.List.{prefix_len}
use Rattle.items.specs.declared.item.Item.{Item}
use Rattle.items.specs.declared.item.Item.TheVariants.{Letter, Number, Break}
use Rattle.items.specs.declared.item.Place.{Place}

pub data Part : Type 0 where
  letter : ℕ → Part
  number : List ℕ → Part
  break : Part

-- what an item that borrows from the sheet stands for, and where it begins
abbrev pub part_of : Item → Part
part_of (Letter b p) = letter b.now
part_of (Number ds p) = number ds.now
part_of (Break p) = break

abbrev pub place_of : Item → Place
place_of (Letter b p) = p
place_of (Number ds p) = p
place_of (Break p) = p

-- the item at the front of what is left of a line from byte `at` on, and the byte behind it
abbrev pub part_from : List ℕ → ℕ → Part × ℕ
part_from [] at = (break, at)
part_from (b ∷ bs) at =
    let n = prefix_len is_ascii_digit bs in
    cond (b == 32) (number (take n bs), at + 1 + n) (letter b, at + 1)

-- the item at a byte of a line, and the byte behind it
unfoldable pub part_at : List ℕ → ℕ → Part × ℕ
part_at line at = part_from (drop at line) at

-- the items of a line by their number, from 0: each begins where the one before it ends, the first at byte 0
abbrev pub item_start : List ℕ → ℕ → ℕ
item_start l zero = 0
item_start l (suc i) = (part_at l (item_start l i)).1

abbrev pub item_of : List ℕ → ℕ → Part
item_of l i = (part_at l (item_start l i)).0

-- where the item begins: a number begins behind its space
abbrev pub begins_from : List ℕ → ℕ → ℕ
begins_from [] at = at
begins_from (b ∷ bs) at = cond (b == 32) (at + 1) at

unfoldable pub begins_at : List ℕ → ℕ → ℕ
begins_at line at = begins_from (drop at line) at
