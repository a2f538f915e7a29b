-- Where a line is at fault: at the first of its items that does not fit.
use Rattle.std.specs.Prelude.{◌≡◌, ◌≢◌, ◌↔◌, ℕ, zero, suc, ◌+◌, ◌<◌, Some, None, Ok, Err, List, [], get_or, codes, Result}
use Rattle.refusals.specs.declared.Refusal.{Refusal}
use Rattle.refusals.specs.declared.Refusal.TheVariants.{FirstByte, LineForm}
use Rattle.items.specs.Items.{part_at, begins_at, item_start, item_of}
use Rattle.items.specs.Lines.{kind_in, number_in, line_of}
use Rattle.items.specs.Texts.{text_of, Short}
use Rattle.items.specs.declared.item.Place.{Place}
use Rattle.items.specs.declared.item.Placed.{Placed}
use Rattle.items.specs.declared.line.Kind.{Kind}
use Rattle.items.specs.declared.line.Kind.TheVariants.{Regions, Polygon, Pair, Cap, Stop}
use Rattle.items.specs.declared.line.Line.{Line}

abbrev pub spot : ℕ → ℕ → Place
spot n at = record { line = n; at = at }

-- how many numbers a line has behind its first
abbrev pub numbers_behind : Kind → ℕ
numbers_behind Regions = 0
numbers_behind Polygon = 0
numbers_behind Pair = 1
numbers_behind Cap = 0
numbers_behind Stop = 0

-- from byte `at` on so many numbers are wanted, and then the line break: where the first item begins that is
-- something else, or a malformed number; the line break if there is none
unfoldable pub misfit : ℕ → List ℕ → ℕ → ℕ
misfit zero l at = begins_at l at
misfit (suc n) l at =
    elim (number_in (part_at l at).0) [ None ↦ begins_at l at | Some a ↦ misfit n l (part_at l at).1 ]

-- the byte of the item at fault: the first, if it is none of the five letters
unfoldable pub fault_byte : List ℕ → ℕ
fault_byte l =
    elim (kind_in (part_at l 0).0) [
      | None ↦ begins_at l 0
      | Some k ↦ misfit (suc (numbers_behind k)) l (part_at l 0).1
    ]

-- the line of that number with the place of its letter, or what is wrong with it and where
unfoldable pub line_read : List ℕ → ℕ → Result (Placed Line) (Placed Refusal)
line_read l n =
    elim (line_of l) [
      | Ok x ↦ Ok (record { value = x; place = spot n 0 })
      | Err k ↦ Err (record { value = k; place = spot n (fault_byte l) })
    ]

-- what was read without its place
abbrev pub unplaced : Result (Placed Line) (Placed Refusal) → Result Line Refusal
unplaced (Ok x) = Ok x.value
unplaced (Err k) = Err k.value

-- byte p is the place of the item that begins at a byte: of a number, which begins with byte 32, the byte behind
-- that; of any other item, and of the line break, that byte itself. Behind the last byte, 0 is read
pub record ItemPlace (l : List ℕ) (at p : ℕ) : Type 0 where
  pub number : get_or l at 0 ≡ 32 → p ≡ at + 1
  pub other : get_or l at 0 ≢ 32 → p ≡ at

-- the items before that of this number are the same in two lines
abbrev pub SameItems : ℕ → List ℕ → List ℕ → Type 0
SameItems i l m = (j : ℕ) → j < i → item_of l j ≡ item_of m j

-- byte p is the place of the first item that does not fit: some line has the same items before it, and no line
-- that has these has that item too
pub record AtFault (l : List ℕ) (p : ℕ) : Type 0 where
  pub which : ℕ
  pub place : ItemPlace l (item_start l which) p
  pub begun : (x : Line) × Short x × SameItems which (text_of x) l
  pub misfits : (x : Line) → Short x → SameItems which (text_of x) l → item_of (text_of x) which ≢ item_of l which

-- a line has the place of its letter, and one that is refused that of its first item, or of the first that does
-- not fit, and no other
pub record Located (l : List ℕ) (n : ℕ) (r : Result (Placed Line) (Placed Refusal)) : Type 0 where
  pub letter : (x : Placed Line) → r ≡ Ok x → x.place ≡ spot n 0
  pub line : (f : Placed Refusal) → r ≡ Err f → f.place.line ≡ n
  pub first : (f : Placed Refusal) → r ≡ Err f → f.value ≡ FirstByte → ItemPlace l 0 f.place.at
  pub rest : (f : Placed Refusal) → r ≡ Err f → f.value ≡ LineForm → (p : ℕ) → AtFault l p ↔ (p ≡ f.place.at)

abbrev pub refused_there : Refusal → ℕ → ℕ → Result (Placed Line) (Placed Refusal)
refused_there k n at = Err (record { value = k; place = spot n at })

-- malformed lines whose places are known by hand: a leading zero, eight digits, no space, a second space, a letter
-- behind a number, a space with no digits behind it, one number where two are wanted; a line that begins with a
-- space, and the empty line
pub record ByHand (l : List ℕ) (n : ℕ) (r : Result (Placed Line) (Placed Refusal)) : Type 0 where
  pub leading_zero : l ≡ codes "R 07" → r ≡ refused_there LineForm n 2
  pub eight_digits : l ≡ codes "R 12345678" → r ≡ refused_there LineForm n 2
  pub no_space : l ≡ codes "R5" → r ≡ refused_there LineForm n 1
  pub two_spaces : l ≡ codes "R  5" → r ≡ refused_there LineForm n 2
  pub letter_behind : l ≡ codes "R 5x" → r ≡ refused_there LineForm n 3
  pub space_behind : l ≡ codes "R 5 " → r ≡ refused_there LineForm n 4
  pub one_number : l ≡ codes "- 1" → r ≡ refused_there LineForm n 3
  pub space_first : l ≡ codes " R 5" → r ≡ refused_there FirstByte n 1
  pub empty : l ≡ [] → r ≡ refused_there FirstByte n 0
