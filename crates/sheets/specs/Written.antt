-- Sheets as they are written in decimal.
use Rattle.std.specs.Prelude.{ℕ, ◌<◌, ◌≤◌, ◌≢◌, List, [], ◌∷◌, ◌++◌, map, IfSome, Some, None, Option}
use Rattle.std.specs.List.{flat_map, AllByRecursion}
use Rattle.std.specs.Option.{unwrap_or}
use Rattle.items.specs.Texts.{text_of}
use Rattle.items.specs.declared.line.Line.{Line}
use Rattle.items.specs.declared.line.Line.TheVariants.{Regions, Polygon, Pair, Cap, Stop}
use Rattle.maps.specs.Touch.{most_regions, bare, with_pair}
use Rattle.sheets.specs.Reading.{Wanted}
use Rattle.sheets.specs.Settings.{Topic, regions, polygon, height_of, fewest_corners, most_corners, most_number}

-- the bytes of lines one after the other, each with its byte 10
unfoldable pub sheet_of : List Line → List ℕ
sheet_of xs = flat_map (λ x. text_of x ++ (10 ∷ [])) xs

-- what somebody asks for by a sheet: n regions and their pairs, or n corners; a cap or none; the most
pub data Subject : Type 0 where
  of_regions : ℕ → List (ℕ × ℕ) → Subject
  of_polygon : ℕ → Subject

pub record Content : Type 0 where
  pub subject : Subject
  pub cap : Option ℕ
  pub most : ℕ

-- a pair of two different regions of n
abbrev pub GoodPair : ℕ → ℕ × ℕ → Type 0
GoodPair n p = (p.0 < n) × (p.1 < n) × (p.0 ≢ p.1)

abbrev pub GoodSubject : Subject → Type 0
GoodSubject (of_regions n ps) = (1 ≤ n) × (n ≤ most_regions) × AllByRecursion (GoodPair n) ps
GoodSubject (of_polygon n) = (fewest_corners ≤ n) × (n ≤ most_corners)

abbrev pub Good : Content → Type 0
Good c =
    GoodSubject c.subject × IfSome c.cap (λ h. h ≤ most_number) × (c.most ≤ most_number)

-- the lines of the sheet that asks for it
abbrev pub pair_line : ℕ × ℕ → Line
pair_line p = Pair p.0 p.1

abbrev pub subject_lines : Subject → List Line
subject_lines (of_regions n ps) = Regions n ∷ map pair_line ps
subject_lines (of_polygon n) = Polygon n ∷ []

abbrev pub cap_lines : Option ℕ → List Line
cap_lines None = []
cap_lines (Some h) = Cap h ∷ []

abbrev pub lines_of : Content → List Line
lines_of c = subject_lines c.subject ++ (cap_lines c.cap ++ (Stop c.most ∷ []))

abbrev pub written : Content → List ℕ
written c = sheet_of (lines_of c)

-- the touch table of a list of pairs
unfoldable pub table_after : List ℕ → List (ℕ × ℕ) → List ℕ
table_after t [] = t
table_after t (p ∷ ps) = table_after (with_pair t p.0 p.1) ps

-- the plan of what is asked for
abbrev pub topic_for : Subject → Topic
topic_for (of_regions n ps) = regions (record { count_of = n; rows = table_after bare ps })
topic_for (of_polygon n) = polygon n

abbrev pub wanted_for : Content → Wanted
wanted_for c =
    record { topic = topic_for c.subject; cap = unwrap_or c.cap (height_of (topic_for c.subject)); most = c.most }
