-- The set-up that a plan asks for: that of its subject, under its cap.
use Rattle.std.specs.Prelude.{◌≤◌}
use Rattle.cap.specs.Capped.{capped}
use Rattle.connected.specs.Sets.{regions_setup}
use Rattle.oracle.specs.Setup.{Setup}
use Rattle.sheets.specs.Reading.{Wanted}
use Rattle.sheets.specs.Settings.{Topic, regions, polygon, fewest_corners, most_corners}
use Rattle.triangulations.specs.Census as triangulations

abbrev pub topic_setup : Topic → Setup
topic_setup (regions m) = regions_setup m.count_of m.rows
topic_setup (polygon n) = triangulations.polygon n

abbrev pub plan_setup : Wanted → Setup
plan_setup w = capped w.cap (topic_setup w.topic)

-- The corners of a plan's polygon are within their range, as every accepted sheet has them.
abbrev pub Drawable : Topic → Type 0
Drawable (regions m) = Unit {0}
Drawable (polygon n) = (fewest_corners ≤ n) × (n ≤ most_corners)
