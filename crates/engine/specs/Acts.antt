-- Any act of the plain census: what it answers, the bytes of the buffer after it, and the view.
use Rattle.std.specs.Prelude.{ℕ, List, Some, None, Ok, Err, Option, Result}
use Rattle.refusals.specs.declared.Refusal.{Refusal}
use Rattle.oracle.specs.Setup.{Setup}
use Rattle.engine.specs.Places.{next_place, restart_place, read_place, save_place, resume_place}
use Rattle.engine.specs.Stand.{Stand}
use Rattle.engine.specs.Tallies.{cleared, next_tally, resume_tally}
use Rattle.engine.specs.View.{View}
use Rattle.engine.specs.declared.act.Act.{Act}
use Rattle.engine.specs.declared.act.Act.TheVariants.{Next, Restart, Read, Save, Resume, Tally as TallyAct}
use Rattle.engine.specs.declared.act.Answer.{Answer}
use Rattle.engine.specs.declared.act.Answer.TheVariants.{Rank, End, Done, Counts}
use Rattle.engine.specs.declared.tally.Tally.{Tally}

-- The answer of a next.
abbrev pub told : Option ℕ → Answer
told None = End
told (Some rank) = Rank rank

abbrev pub found : Result (Option ℕ) Refusal → Result Answer Refusal
found (Err e) = Err e
found (Ok rank) = Ok (told rank)

-- The answer of an act that has none of its own.
abbrev pub done : Result (Unit {0}) Refusal → Result Answer Refusal
done (Err e) = Err e
done (Ok u) = Ok Done

-- The place, with the answers and the bytes.
abbrev pub place_act : Setup → View → Act → List ℕ → Result Answer Refusal × List ℕ × Stand
place_act s v Next bytes = (found (next_place s v.stand).0, bytes, (next_place s v.stand).1)
place_act s v Restart bytes = (Ok Done, bytes, restart_place s)
place_act s v Read bytes = (done (read_place s v.stand bytes).0, (read_place s v.stand bytes).1, v.stand)
place_act s v (Save job) bytes =
    (done (save_place job s v.stand bytes).0, (save_place job s v.stand bytes).1, v.stand)
place_act s v (Resume job) bytes =
    (done (resume_place job s v.stand bytes).0, bytes, (resume_place job s v.stand bytes).1)
place_act s v TallyAct bytes = (Ok (Counts v.tally), bytes, v.stand)

-- The tally, of an act at place p.
abbrev pub tally_act : Setup → ℕ → Act → List ℕ → Tally → Tally
tally_act s p Next bytes t = next_tally s p t
tally_act s p Restart bytes t = cleared
tally_act s p Read bytes t = t
tally_act s p (Save job) bytes t = t
tally_act s p (Resume job) bytes t = resume_tally job s bytes t
tally_act s p TallyAct bytes t = t

abbrev pub plain_act : Setup → View → Act → List ℕ → Result Answer Refusal × List ℕ × View
plain_act s v act bytes = (
  (place_act s v act bytes).0,
  (place_act s v act bytes).1,
  record { stand = (place_act s v act bytes).2; tally = tally_act s v.stand.place act bytes v.tally },
)
