-- What the tally says at the end of the list.
use Rattle.std.specs.Prelude.{◌≡◌, ◌+◌, ◌*◌, min, ◌⊎◌, Bool, true, false, List, [], ◌∷◌, ◌++◌, Ok, Err, Result}
use Rattle.std.specs.List.{AllByRecursion}
use Rattle.refusals.specs.declared.Refusal.{Refusal}
use Rattle.oracle.specs.Outcomes.{counted}
use Rattle.oracle.specs.Places.{objects, filled_slots}
use Rattle.oracle.specs.Setup.{Setup}
use Rattle.engine.specs.Runs.{Entry, Ungranted}
use Rattle.engine.specs.declared.act.Act.{Act}
use Rattle.engine.specs.declared.act.Act.TheVariants.{Next, Restart, Read, Save, Resume, Tally as TallyAct}
use Rattle.engine.specs.declared.act.Answer.{Answer}
use Rattle.engine.specs.declared.act.Answer.TheVariants.{Rank, End, Done, Counts}
use Rattle.engine.specs.declared.tally.Tally.{Tally}

-- Whether no resume was granted since the last restart, after a resume with this answer.
abbrev pub unless_granted : Bool → Result Answer Refusal → Bool
unless_granted whole (Ok Done) = false
unless_granted whole (Ok (Rank r)) = whole
unless_granted whole (Ok End) = whole
unless_granted whole (Ok (Counts t)) = whole
unless_granted whole (Err e) = whole

-- The same, after any act.
abbrev pub unresumed_after : Bool → Act → Result Answer Refusal → Bool
unresumed_after whole Restart a = true
unresumed_after whole (Resume job) a = unless_granted whole a
unresumed_after whole Next a = whole
unresumed_after whole Read a = whole
unresumed_after whole (Save job) a = whole
unresumed_after whole TallyAct a = whole

-- The same, after a list of acts.
unfoldable pub unresumed : Bool → List Entry → Bool
unresumed whole [] = whole
unresumed whole (e ∷ es) = unresumed (unresumed_after whole e.act e.answer) es

-- Every object, and the steps of the walks from all of them.
abbrev pub whole_tally : Setup → Tally
whole_tally s =
    record { objects = counted (objects s); steps = counted (objects s * s.width + filled_slots s) }

-- At each next that answers the end, if no resume was granted since the last restart before it, or
-- since the beginning, the tally is that of the whole list.
abbrev pub Counted : Setup → List Entry → Type 0
Counted s entries =
    (before after : List Entry) (e : Entry) → entries ≡ before ++ (e ∷ after) → e.act ≡ Next → e.answer ≡ Ok End → unresumed true before ≡ true → e.tally ≡ whole_tally s

-- No act yet, or the last one was a restart.
abbrev pub Fresh : List Entry → Type 0
Fresh entries =
    (entries ≡ []) ⊎ ((before : List Entry) × (restart : Entry) × (entries ≡ before ++ (restart ∷ [])) × (restart.act ≡ Restart))

-- The law that the tally keeps: at a next that answers the end, with no granted resume since a restart or
-- since the beginning, the objects are N and the steps are N × D + F, each up to the greatest u64.
abbrev pub Since : Setup → List Entry → Type 0
Since s entries =
    (before between after : List Entry) (e : Entry) → entries ≡ before ++ (between ++ (e ∷ after)) → Fresh before → AllByRecursion Ungranted between → e.act ≡ Next → e.answer ≡ Ok End → (e.tally.objects ≡ min (objects s) 18446744073709551615) × (e.tally.steps ≡ min (objects s * s.width + filled_slots s) 18446744073709551615)
