-- How often an oracle is told to step: by each act, and by a list of acts. Every call of step counts one
-- here, those of making and of a restart too, which the tally leaves out; and there is no ceiling.
use Rattle.std.specs.Prelude.{◌≡◌, ℕ, ◌+◌, ◌*◌, List, [], ◌∷◌, ◌++◌, ◌≢◌, length, map, Ok, Err}
use Rattle.std.specs.List.{AllByRecursion}
use Rattle.refusals.specs.declared.Refusal.{Refusal}
use Rattle.oracle.specs.Home.{steps_home}
use Rattle.oracle.specs.Places.{at, objects, filled_slots}
use Rattle.oracle.specs.Setup.{Code, Setup}
use Rattle.oracle.specs.Walk.{Spot, on, past, walk}
use Rattle.engine.specs.Acts.{plain_act}
use Rattle.engine.specs.Runs.{Order, Entry, Ungranted, plain_run}
use Rattle.engine.specs.View.{View, begun}
use Rattle.engine.specs.declared.act.Act.{Act}
use Rattle.engine.specs.declared.act.Act.TheVariants.{Next, Restart, Read, Save, Resume, Tally as TallyAct}
use Rattle.engine.specs.declared.act.Answer.TheVariants.{End}

-- A next at a spot makes the walk from there; past the end it is refused before any step.
abbrev pub next_steps : Setup → Spot → ℕ
next_steps s (on v) = (walk s v).steps
next_steps s past = 0

-- Any act at a view. A restart steps home; none but next and restart steps.
abbrev pub act_steps : Setup → View → Act → ℕ
act_steps s v Next = next_steps s (at s v.stand.place)
act_steps s v Restart = steps_home s v.stand.current
act_steps s v Read = 0
act_steps s v (Save job) = 0
act_steps s v (Resume job) = 0
act_steps s v TallyAct = 0

-- A refused act changes nothing: no byte of the buffer, neither where the census stands nor the tally. And
-- it tells the oracle not once to step.
abbrev pub RefusalsChangeNothing : Setup → Type 0
RefusalsChangeNothing s =
    (v : View) (act : Act) (bytes : List ℕ) (e : Refusal) → (plain_act s v act bytes).0 ≡ Err e → ((plain_act s v act bytes).1 ≡ bytes) × ((plain_act s v act bytes).2 ≡ v) × (act_steps s v act ≡ 0)

-- A list of acts that the plain census carries out from a view on.
unfoldable pub acts_steps : Setup → View → List Order → ℕ
acts_steps s v [] = 0
acts_steps s v (o ∷ os) = act_steps s v o.act + acts_steps s (plain_act s v o.act o.bytes).2 os

-- A census made over an oracle whose current object is v, and then a list of acts.
abbrev pub run_steps : Setup → Code → List Order → ℕ
run_steps s v os = steps_home s v + acts_steps s (begun s) os

-- Acts from the first place to the end of the list: the last one is a next that answers the end, and
-- there is neither a restart nor a granted resume before it. It is the first that answers the end, since
-- a next past the end is refused.
pub record ToTheEnd (s : Setup) (os : List Order) : Type 0 where
  pub before : List Entry
  pub last : Entry
  pub entries : (plain_run s (begun s) os).0 ≡ before ++ (last ∷ [])
  pub next : last.act ≡ Next
  pub ends : last.answer ≡ Ok End
  pub onward : AllByRecursion (λ e. (e.act ≢ Restart) × Ungranted e) before

-- A next, with any buffer.
abbrev pub next_order : List ℕ → Order
next_order bytes = record { act = Next; bytes = bytes }

-- From making, or from a restart, to the end of the list an oracle steps home, and then once for each
-- slot of each object and once more for each filled slot. As many nexts as there are objects come to the end.
pub record WholeCalls (s : Setup) : Type 0 where
  pub from_making : (v : Code) (os : List Order) → ToTheEnd s os → run_steps s v os ≡ steps_home s v + (objects s * s.width + filled_slots s)
  pub from_restart : (v : View) (bytes : List ℕ) (os : List Order) → ToTheEnd s os → acts_steps s v (record { act = Restart; bytes = bytes } ∷ os) ≡ steps_home s v.stand.current + (objects s * s.width + filled_slots s)
  pub by_nexts : (v : Code) (buffers : List (List ℕ)) → length buffers ≡ objects s → run_steps s v (map next_order buffers) ≡ steps_home s v + (objects s * s.width + filled_slots s)
