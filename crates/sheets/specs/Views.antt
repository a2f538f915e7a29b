-- What a plan and the reader's own settings hold, without the facts that maps and drafts carry.
use Rattle.std.specs.Option.{option_map}
use Rattle.maps.specs.Views.{drafted, mapped_out}
use Rattle.maps.specs.declared.draft.Draft.{Draft}
use Rattle.maps.specs.declared.map.Map.{Map}
use Rattle.sheets.specs.Reading.{Wanted}
use Rattle.sheets.specs.Settings as settings
use Rattle.sheets.specs.Settings.{Settings, regions, polygon}
use Rattle.sheets.specs.declared.plan.Plan.{Plan}
use Rattle.sheets.specs.declared.plan.Subject.{Subject}
use Rattle.sheets.specs.declared.plan.Subject.TheVariants.{Regions, Polygon}
use Rattle.sheets.specs.declared.state.State.{State}

abbrev pub subject_of : Subject Map → settings.Topic
subject_of (Regions m) = regions (mapped_out m)
subject_of (Polygon n) = polygon n

abbrev pub plan_of : Plan → Wanted
plan_of p = record { topic = subject_of p.subject; cap = p.cap; most = p.most }

abbrev pub topic_of : Subject Draft → settings.Topic
topic_of (Regions d) = regions (drafted d)
topic_of (Polygon n) = polygon n

abbrev pub state_of : State → Settings
state_of s = record { last = s.last; topic = option_map topic_of s.topic; cap = s.cap; most = s.most }
