-- The steps of the acts from the first place to the end.
use Rattle.std.proofs.Common.{◌≡◌, ◌≢◌, ℕ, ◌+◌, ◌-◌, ◌*◌, ◌≤◌, List, [], ◌∷◌, ◌++◌, length, map, take, Ok, Err, Result, sym, refl, ap, ◌∙◌, subst, arith}
use Rattle.std.specs.List.{AllByRecursion}
use Rattle.refusals.specs.declared.Refusal.{Refusal}
use Rattle.oracle.proofs.Complete.{complete}
use Rattle.oracle.specs.Counting.{total}
use Rattle.oracle.specs.Laws.{Lawful}
use Rattle.oracle.specs.Listing.{listing}
use Rattle.oracle.specs.Places.{at, objects, filled_slots}
use Rattle.oracle.specs.Setup.{Code, Setup}
use Rattle.oracle.specs.Walk.{Spot, on, past}
use Rattle.marks.specs.Opening.{opened}
use Rattle.engine.proofs.WholeTally.{made, on_within, past_beyond, more_steps, all_steps}
use Rattle.engine.specs.Acts.{found, done, plain_act}
use Rattle.engine.specs.Places as places
use Rattle.engine.specs.Runs.{Order, Entry, Ungranted, noted, plain_run}
use Rattle.engine.specs.Stand.{Stand}
use Rattle.engine.specs.Steps.{next_order, next_steps, act_steps, acts_steps, ToTheEnd, WholeCalls}
use Rattle.oracle.specs.Home.{steps_home}
use Rattle.engine.specs.View.{View, begun}
use Rattle.engine.specs.declared.act.Act.{Act}
use Rattle.engine.specs.declared.act.Act.TheVariants.{Next, Restart, Read, Save, Resume, Tally as TallyAct}
use Rattle.engine.specs.declared.act.Answer.TheVariants.{End}

-- an entry that went on
abbrev WentOn : Entry → Type 0
WentOn e = (e.act ≢ Restart) × Ungranted e

module _ (s : Setup) (law : Lawful s) where
  -- the steps of the walks from the places before p
  abbrev before : ℕ → ℕ
  before p = total (made s) (take (p - 1) (listing s))

  -- n steps from place p to place q
  record Went (p n q : ℕ) : Type 0 where
    from : 1 ≤ q
    sum : before p + n ≡ before q

  next-went : (here : Stand) → 1 ≤ here.place → (spot : Spot) → at s here.place ≡ spot → Went here.place (next_steps s spot) (places.next_from s here spot).1.place
  next-went here from past e = record { from = from; sum = omega arith }
  next-went here from (on w) e =
      let h = more_steps s law here.place w from e in
      record { from = omega arith; sum = omega arith }

  resume-went : (v : View) → 1 ≤ v.stand.place → (job : ℕ) (q : Result Code Refusal) → (refusal : Refusal) × (done (places.resume_to s v.stand q).0 ≡ Err refusal) → Went v.stand.place 0 (places.resume_to s v.stand q).1.place
  resume-went v from job (Err e) h = record { from = from; sum = omega arith }
  resume-went v from job (Ok w) (refusal, e) =
      let z : ◌≡◌ {A = ℕ} 0 1 = cc in absurd (omega arith)

  act-went : (v : View) → 1 ≤ v.stand.place → (act : Act) (bytes : List ℕ) → WentOn (noted act (plain_act s v act bytes)) → Went v.stand.place (act_steps s v act) (plain_act s v act bytes).2.stand.place
  act-went v from Next bytes h = next-went v.stand from (at s v.stand.place) refl
  act-went v from Restart bytes h = absurd (h.0 refl)
  act-went v from Read bytes h = record { from = from; sum = omega arith }
  act-went v from (Save job) bytes h = record { from = from; sum = omega arith }
  act-went v from (Resume job) bytes h = resume-went v from job (opened job s bytes) (h.1 job refl)
  act-went v from TallyAct bytes h = record { from = from; sum = omega arith }

  -- a next that answers the end was made from the last place
  next-ends : (here : Stand) → 1 ≤ here.place → (spot : Spot) → at s here.place ≡ spot → found (places.next_from s here spot).0 ≡ Ok End → before here.place + next_steps s spot ≡ objects s * s.width + filled_slots s
  next-ends here from past e a = let z : ◌≡◌ {A = ℕ} 0 1 = cc in absurd (omega arith)
  next-ends here from (on w) e a = go (at s (here.place + 1)) refl a
    where
      go : (there : Spot) → at s (here.place + 1) ≡ there → found (Ok (places.rank_at s there)) ≡ Ok End → before here.place + made s w ≡ objects s * s.width + filled_slots s
      go (on x) f b = let z : ◌≡◌ {A = ℕ} 0 1 = cc in absurd (omega arith)
      go past f b =
          let upto = on_within s law here.place w e in
          let beyond = past_beyond s law (here.place + 1) (omega arith) f in
          let more = more_steps s law here.place w from e in
          let all = all_steps s law (here.place + 1) (omega arith) in
          omega arith

  act-ends : (v : View) → 1 ≤ v.stand.place → (act : Act) (bytes : List ℕ) → act ≡ Next → (plain_act s v act bytes).0 ≡ Ok End → before v.stand.place + act_steps s v act ≡ objects s * s.width + filled_slots s
  act-ends v from act bytes e a =
      ap (λ x. before v.stand.place + act_steps s v x) e
      ∙ next-ends v.stand from (at s v.stand.place) refl (sym (ap (λ x. (plain_act s v x bytes).0) e) ∙ a)

  -- the steps that are left to the end
  run-ends : (v : View) → 1 ≤ v.stand.place → (os : List Order) (es : List Entry) (last : Entry) → (plain_run s v os).0 ≡ es ++ (last ∷ []) → last.act ≡ Next → last.answer ≡ Ok End → AllByRecursion WentOn es → before v.stand.place + acts_steps s v os ≡ objects s * s.width + filled_slots s
  unfolding plain_run acts_steps
  run-ends v from [] [] last e n a h = let z : ◌≡◌ {A = ℕ} 0 1 = cc in absurd (omega arith)
  run-ends v from [] (x ∷ es) last e n a h = let z : ◌≡◌ {A = ℕ} 0 1 = cc in absurd (omega arith)
  run-ends v from (o ∷ []) [] last e n a h =
      let r = plain_act s v o.act o.bytes in
      let one : noted o.act r ≡ last = cc in
      let k = act-ends v from o.act o.bytes (ap (λ (x : Entry). x.act) one ∙ n) (ap (λ (x : Entry). x.answer) one ∙ a) in
      omega arith
  run-ends v from (o ∷ (p ∷ os)) [] last e n a h = let z : ◌≡◌ {A = ℕ} 0 1 = cc in absurd (omega arith)
  run-ends v from (o ∷ os) (x ∷ es) last e n a h =
      let r = plain_act s v o.act o.bytes in
      let one : noted o.act r ≡ x = cc in
      let others : (plain_run s r.2 os).0 ≡ es ++ (last ∷ []) = cc in
      let w = act-went v from o.act o.bytes (subst WentOn (sym one) h.0) in
      let k = run-ends r.2 w.from os es last others n a h.1 in
      let sum = w.sum in
      omega arith

  all-calls : (os : List Order) → ToTheEnd s os → acts_steps s (begun s) os ≡ objects s * s.width + filled_slots s
  unfolding total
  all-calls os t =
      let k = run-ends (begun s) (omega arith) os t.before t.last t.entries t.next t.ends t.onward in
      let none : before 1 ≡ 0 = refl in
      omega arith

  -- the steps of as many nexts as are left
  nexts-went : (v : View) → 1 ≤ v.stand.place → (buffers : List (List ℕ)) → length buffers + v.stand.place ≡ objects s + 1 → before v.stand.place + acts_steps s v (map next_order buffers) ≡ before (objects s + 1)
  unfolding acts_steps
  nexts-went v from [] n =
      let there : v.stand.place ≡ objects s + 1 = omega arith in
      let last = ap before there in
      omega arith
  nexts-went v from (b ∷ bs) n =
      let r = plain_act s v Next b in
      let (w, e) = (complete s law).at_within v.stand.place from (omega arith) in
      let on : r.2.stand.place ≡ v.stand.place + 1 = ap (λ spot. (places.next_from s v.stand spot).1.place) e in
      let h = next-went v.stand from (at s v.stand.place) refl in
      let sum = h.sum in
      let k = nexts-went r.2 h.from bs (omega arith) in
      omega arith

  next-calls : (buffers : List (List ℕ)) → length buffers ≡ objects s → acts_steps s (begun s) (map next_order buffers) ≡ objects s * s.width + filled_slots s
  unfolding total
  next-calls buffers n =
      let k = nexts-went (begun s) (omega arith) buffers (omega arith) in
      let none : before 1 ≡ 0 = refl in
      let all = all_steps s law (objects s + 1) refl in
      omega arith

  pub whole_calls : WholeCalls s
  unfolding acts_steps
  whole_calls =
      record {
        from_making = λ v os t. ap (λ n. steps_home s v + n) (all-calls os t);
        from_restart = λ v bytes os t. ap (λ n. steps_home s v.stand.current + n) (all-calls os t);
        by_nexts = λ v buffers e. ap (λ n. steps_home s v + n) (next-calls buffers e);
      }
