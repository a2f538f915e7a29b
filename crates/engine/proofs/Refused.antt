-- What a refused act leaves.
use Rattle.std.proofs.Common.{◌≡◌, ℕ, Bool, true, false, ltb, List, ◌++◌, length, drop, Ok, Err, Result, refl, arith}
use Rattle.refusals.specs.declared.Refusal.{Refusal}
use Rattle.refusals.specs.declared.Refusal.TheVariants.{BufferShort}
use Rattle.oracle.specs.Places.{at}
use Rattle.oracle.specs.Setup.{Code, Setup}
use Rattle.oracle.specs.Walk.{Spot, on, past}
use Rattle.marks.specs.Layout.{block, placed}
use Rattle.marks.specs.Opening.{opened}
use Rattle.engine.specs.Acts.{found, done}
use Rattle.engine.specs.Places.{next_from, read_from, save_from, resume_to}
use Rattle.engine.specs.Steps.{next_steps, RefusalsChangeNothing}
use Rattle.engine.specs.Tallies.{booked_from, cleared_by}
use Rattle.engine.specs.View.{View}
use Rattle.engine.specs.declared.act.Act.TheVariants.{Next, Restart, Read, Save, Resume, Tally as TallyAct}
use Rattle.engine.specs.declared.act.Answer.{Answer}

-- no answer is a refusal
granted : {A : Type 0} (a : Answer) (e : Refusal) → ◌≡◌ {A = Result Answer Refusal} (Ok a) (Err e) → A
granted a e h = let z : ◌≡◌ {A = ℕ} 0 1 = cc in absurd (omega arith)

module _ (s : Setup) (v : View) (e : Refusal) where
  next-kept : (spot : Spot) → found (next_from s v.stand spot).0 ≡ Err e → (record { stand = (next_from s v.stand spot).1; tally = booked_from s v.stand.place v.tally spot } ≡ v) × (next_steps s spot ≡ 0)
  next-kept past h = (refl, refl)
  next-kept (on w) h = granted _ e h

  read-kept : (bytes : List ℕ) (spot : Spot) → done (read_from s bytes spot).0 ≡ Err e → (read_from s bytes spot).1 ≡ bytes
  read-kept bytes past h = refl
  read-kept bytes (on w) h = short (ltb (length bytes) s.size) h
    where
      put_if : Bool → Result (Unit {0}) Refusal × List ℕ
      put_if b = elim b [ true ↦ (Err BufferShort, bytes) | false ↦ (Ok tt, w ++ drop s.size bytes) ]

      short : (b : Bool) → done (put_if b).0 ≡ Err e → (put_if b).1 ≡ bytes
      short true h = refl
      short false h = granted _ e h

  placed-kept : (short : Bool) (row bytes : List ℕ) → done (placed short row bytes).0 ≡ Err e → (placed short row bytes).1 ≡ bytes
  placed-kept true row bytes h = refl
  placed-kept false row bytes h = granted _ e h

  save-kept : (job : ℕ) (bytes : List ℕ) (spot : Spot) → done (save_from job s bytes spot).0 ≡ Err e → (save_from job s bytes spot).1 ≡ bytes
  save-kept job bytes past h = refl
  save-kept job bytes (on w) h = placed-kept (ltb (length bytes) 512) (block job s w) bytes h

  resume-kept : (q : Result Code Refusal) → done (resume_to s v.stand q).0 ≡ Err e → record { stand = (resume_to s v.stand q).1; tally = cleared_by v.tally q } ≡ v
  resume-kept (Err r) h = refl
  resume-kept (Ok w) h = granted _ e h

pub refusals_change_nothing : (s : Setup) → RefusalsChangeNothing s
refusals_change_nothing s v Next bytes e h =
    let k = next-kept s v e (at s v.stand.place) h in (refl, k.0, k.1)
refusals_change_nothing s v Restart bytes e h = granted _ e h
refusals_change_nothing s v Read bytes e h = (read-kept s v e bytes (at s v.stand.place) h, refl, refl)
refusals_change_nothing s v (Save job) bytes e h = (save-kept s v e job bytes (at s v.stand.place) h, refl, refl)
refusals_change_nothing s v (Resume job) bytes e h = (refl, resume-kept s v e (opened job s bytes) h, refl)
refusals_change_nothing s v TallyAct bytes e h = granted _ e h
