-- The set-up that lines make: what has been asked for so far, and what one line more does to it.
use Rattle.std.specs.Prelude.{ℕ, ◌-◌, true, false, cond, ◌&&◌, ◌||◌, Some, None, Ok, Err, Option, Result, nat_le}
use Rattle.refusals.specs.declared.Refusal.{Refusal}
use Rattle.refusals.specs.declared.Refusal.TheVariants.{LineOrder, OutOfRange, BadPair}
use Rattle.items.specs.Lines.{kind_of_line}
use Rattle.items.specs.declared.line.Kind.{Kind}
use Rattle.items.specs.declared.line.Line.{Line}
use Rattle.items.specs.declared.line.Line.TheVariants as line
use Rattle.maps.specs.Touch.{Regions, begun, with_pair, pair_fault}
use Rattle.sheets.specs.Order.{follows}

-- the numbers that a polygon, a cap and the most objects to print may be
abbrev pub fewest_corners : ℕ
fewest_corners = 3

abbrev pub most_corners : ℕ
most_corners = 24

abbrev pub most_number : ℕ
most_number = 1000000

-- what a sheet is about: regions with their touch table, or a polygon's corners
pub data Topic : Type 0 where
  regions : Regions → Topic
  polygon : ℕ → Topic

-- how many regions or corners; the greatest rank
abbrev pub size_of : Topic → ℕ
size_of (regions m) = m.count_of
size_of (polygon n) = n

abbrev pub height_of : Topic → ℕ
height_of (regions m) = m.count_of
height_of (polygon n) = n - 3

-- what the lines so far have asked for
pub record Settings : Type 0 where
  pub last : Option Kind
  pub topic : Option Topic
  pub cap : Option ℕ
  pub most : ℕ

abbrev pub unset : Settings
unset = record { last = None; topic = None; cap = None; most = 0 }

-- the subject of line 1
abbrev pub polygon_with : ℕ → Result Topic Refusal
polygon_with n = cond (nat_le fewest_corners n && nat_le n most_corners) (Ok (polygon n)) (Err OutOfRange)

abbrev pub regions_with : ℕ → Result Topic Refusal
regions_with n = elim (begun n) [ Ok m ↦ Ok (regions m) | Err k ↦ Err k ]

-- a pair line: a number that names no region or corner first, then a pair that cannot be
abbrev pub pair_among : Regions → ℕ → ℕ → Result Topic Refusal
pair_among m a b =
    elim (pair_fault m.count_of a b) [
      | None ↦ Ok (regions (record { count_of = m.count_of; rows = with_pair m.rows a b }))
      | Some k ↦ Err k
    ]

abbrev pub pair_in : Topic → ℕ → ℕ → Result Topic Refusal
pair_in (regions m) a b = pair_among m a b
pair_in (polygon n) a b = Err (cond (nat_le n a || nat_le n b) OutOfRange BadPair)

-- before line 1 there is no region to name
abbrev pub pair_after : Option Topic → ℕ → ℕ → Result Topic Refusal
pair_after None a b = Err OutOfRange
pair_after (Some t) a b = pair_in t a b

-- a number of a C line or a full-stop line
abbrev pub counted : ℕ → Result ℕ Refusal
counted c = cond (nat_le c most_number) (Ok c) (Err OutOfRange)

abbrev pub with_topic : Settings → Kind → Result Topic Refusal → Result Settings Refusal
with_topic s k (Ok t) = Ok (record { last = Some k; topic = Some t; cap = s.cap; most = s.most })
with_topic s k (Err e) = Err e

abbrev pub with_cap : Settings → Kind → Result ℕ Refusal → Result Settings Refusal
with_cap s k (Ok c) = Ok (record { last = Some k; topic = s.topic; cap = Some c; most = s.most })
with_cap s k (Err e) = Err e

abbrev pub with_most : Settings → Kind → Result ℕ Refusal → Result Settings Refusal
with_most s k (Ok m) = Ok (record { last = Some k; topic = s.topic; cap = s.cap; most = m })
with_most s k (Err e) = Err e

-- the settings after the values of one line
abbrev pub set_by : Settings → Line → Result Settings Refusal
set_by s (line.Regions n) = with_topic s (kind_of_line (line.Regions n)) (regions_with n)
set_by s (line.Polygon n) = with_topic s (kind_of_line (line.Polygon n)) (polygon_with n)
set_by s (line.Pair a b) = with_topic s (kind_of_line (line.Pair a b)) (pair_after s.topic a b)
set_by s (line.Cap c) = with_cap s (kind_of_line (line.Cap c)) (counted c)
set_by s (line.Stop m) = with_most s (kind_of_line (line.Stop m)) (counted m)

-- the settings after one line: its place among the lines comes before its values
unfoldable pub after_line : Settings → Line → Result Settings Refusal
after_line s x = elim (follows s.last (kind_of_line x)) [ true ↦ set_by s x | false ↦ Err LineOrder ]
