-- Two stories of a census, told from its making to their end.
use Rattle.std.specs.Prelude.{◌≡◌, ◌≢◌, ℕ, ◌+◌, ◌*◌, ◌<◌, ◌≤◌, min, Bool, true, false, cond, List, [], ◌∷◌, ◌++◌, length, map, take, Ok, Err}
use Rattle.std.specs.List.{AllByRecursion}
use Rattle.refusals.specs.declared.Refusal.{Refusal}
use Rattle.marks.specs.Opening.{opened}
use Rattle.oracle.specs.Places.{objects, filled_slots}
use Rattle.oracle.specs.Setup.{Setup}
use Rattle.engine.specs.Acts.{plain_act}
use Rattle.engine.specs.Runs.{Order, Entry, plain_run}
use Rattle.engine.specs.Steps.{next_order, ToTheEnd}
use Rattle.engine.specs.View.{View, begun}
use Rattle.engine.specs.declared.act.Act.{Act}
use Rattle.engine.specs.declared.act.Act.TheVariants.{Next, Restart, Read, Save, Resume, Tally as TallyAct}
use Rattle.engine.specs.declared.act.Answer.TheVariants.{End, Done}

-- The last act was a next that answered the end, and the tally after it is that of the whole list.
pub record Finished (s : Setup) (entries : List Entry) : Type 0 where
  pub before : List Entry
  pub last : Entry
  pub entries_are : entries ≡ before ++ (last ∷ [])
  pub next : last.act ≡ Next
  pub ends : last.answer ≡ Ok End
  pub objects_are : last.tally.objects ≡ min (objects s) 18446744073709551615
  pub steps_are : last.tally.steps ≡ min (objects s * s.width + filled_slots s) 18446744073709551615

-- No restart, and no resume of a block that opens.
abbrev pub GoesOn : Setup → Order → Type 0
GoesOn s o =
    (o.act ≢ Restart) × ((job : ℕ) → o.act ≡ Resume job → (refusal : Refusal) × (opened job s o.bytes ≡ Err refusal))

abbrev pub is_next : Act → Bool
is_next Next = true
is_next Restart = false
is_next Read = false
is_next (Save job) = false
is_next (Resume job) = false
is_next TallyAct = false

-- How many orders are for a next.
abbrev pub nexts : List Order → ℕ
nexts [] = 0
nexts (o ∷ os) = cond (is_next o.act) 1 0 + nexts os

-- A restart forgets all that was done before it, resumes included: acts after it that go from the first
-- place to the end finish with the tally of the whole list. As many nexts as there are objects are such acts, in
-- a row or among reads, saves, tallies and refused resumes.
pub record RestartCounts (s : Setup) : Type 0 where
  pub finishes : (os : List Order) (bytes : List ℕ) (later : List Order) → ToTheEnd s later → Finished s (plain_run s (begun s) (os ++ (record { act = Restart; bytes = bytes } ∷ later))).0
  pub by_nexts : (buffers : List (List ℕ)) → length buffers ≡ objects s → ToTheEnd s (map next_order buffers)
  pub among_others : (os : List Order) (bytes : List ℕ) → AllByRecursion (GoesOn s) os → nexts os + 1 ≡ objects s → ToTheEnd s (os ++ (next_order bytes ∷ []))

-- A save at a view, and later, at another view, a resume of the 512 bytes that it wrote.
pub record Returned (s : Setup) (job : ℕ) (bytes : List ℕ) (here : View) (os : List Order) : Type 0 where
  -- the save is granted, and leaves the census as it was
  pub written : List ℕ
  pub saved : plain_act s here (Save job) bytes ≡ (Ok Done, written, here)
  -- after any acts the resume is granted: the census stands where it was saved, with a fresh tally
  pub resumed : plain_act s (plain_run s here os).1 (Resume job) (take 512 written) ≡ (Ok Done, take 512 written, record { stand = here.stand; tally = record { objects = 1; steps = 0 } })

-- Wherever any acts have led but past the end, a save under any job number into a buffer of at least 512
-- bytes is granted, and a resume goes back there from wherever any further acts have led.
abbrev pub SaveResumes : Setup → Type 0
SaveResumes s =
    (first later : List Order) (job : ℕ) (bytes : List ℕ) → (plain_run s (begun s) first).1.stand.place ≤ objects s → job < 4294967296 → 512 ≤ length bytes → Returned s job bytes (plain_run s (begun s) first).1 later
