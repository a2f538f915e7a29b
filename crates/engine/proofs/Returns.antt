-- A restart and acts to the end of the list; and a resume of what was saved.
use Rattle.std.proofs.Common.{◌≡◌, ◌≢◌, ℕ, suc, ◌+◌, ◌<◌, ◌≤◌, false, cond, ltb, List, [], ◌∷◌, ◌++◌, length, map, take, drop, Ok, Err, Result, sym, refl, ap, ◌∙◌, subst, inl, arith}
use Rattle.std.proofs.lemmas.Bool.{le-ltb}
use Rattle.std.proofs.lemmas.List.{append_assoc, map-append, take_at}
use Rattle.std.proofs.ByRecursion.{All-weaker}
use Rattle.std.specs.List.{AllByRecursion}
use Rattle.refusals.specs.declared.Refusal.{Refusal}
use Rattle.oracle.proofs.Complete.{complete}
use Rattle.oracle.proofs.InPlace.{place_positive}
use Rattle.oracle.specs.Laws.{Lawful}
use Rattle.oracle.specs.Listing.{listing}
use Rattle.oracle.specs.Places.{at, objects}
use Rattle.oracle.specs.Setup.{Code, Setup}
use Rattle.oracle.specs.Walk.{Spot, on, past}
use Rattle.marks.proofs.RoundTrip.{block_length}
use Rattle.marks.specs.Layout.{block, placed}
use Rattle.marks.specs.Opening.{opened}
use Rattle.engine.proofs.Resumes.{reopened}
use Rattle.engine.proofs.RunCounts.{run_since}
use Rattle.engine.proofs.Standings.{stand_at}
use Rattle.engine.proofs.WholeTally.{on_within}
use Rattle.engine.specs.Acts.{found, done, plain_act}
use Rattle.engine.specs.Places as places
use Rattle.engine.specs.Runs.{Order, Entry, Ungranted, noted, plain_run}
use Rattle.engine.specs.Scenarios.{GoesOn, is_next, nexts, Finished, RestartCounts, Returned, SaveResumes}
use Rattle.engine.specs.Stand.{Stand, standing_at}
use Rattle.engine.specs.Steps.{next_order, ToTheEnd}
use Rattle.engine.specs.Tallies.{cleared}
use Rattle.engine.specs.View.{View, begun}
use Rattle.engine.specs.declared.act.Act.{Act}
use Rattle.engine.specs.declared.act.Act.TheVariants.{Next, Restart, Read, Save, Resume, Tally as TallyAct}
use Rattle.engine.specs.declared.act.Answer.TheVariants.{End}

-- one list of acts after another
run_append : (s : Setup) (v : View) (xs ys : List Order) → plain_run s v (xs ++ ys) ≡ ((plain_run s v xs).0 ++ (plain_run s (plain_run s v xs).1 ys).0, (plain_run s (plain_run s v xs).1 ys).1)
unfolding plain_run
run_append s v [] ys = refl
run_append s v (o ∷ xs) ys =
    let r = plain_act s v o.act o.bytes in
    ap (λ (q : List Entry × View). (noted o.act r ∷ q.0, q.1)) (run_append s r.2 xs ys)

-- the end of a list of entries is that of any longer one
behind : (s : Setup) (xs ys : List Entry) → Finished s ys → Finished s (xs ++ ys)
behind s xs ys f =
    record {
      before = xs ++ f.before;
      last = f.last;
      entries_are = ap (λ es. xs ++ es) f.entries_are ∙ sym (append_assoc xs f.before (f.last ∷ []));
      next = f.next;
      ends = f.ends;
      objects_are = f.objects_are;
      steps_are = f.steps_are;
    }

-- the same acts from any view
record Reaching (s : Setup) (v : View) (os : List Order) : Type 0 where
  before : List Entry
  last : Entry
  entries : (plain_run s v os).0 ≡ before ++ (last ∷ [])
  next : last.act ≡ Next
  ends : last.answer ≡ Ok End
  onward : AllByRecursion (λ e. (e.act ≢ Restart) × Ungranted e) before

-- the last of a list that is not empty
last_apart : (b : List ℕ) (bs : List (List ℕ)) → (front : List (List ℕ)) × (last : List ℕ) × (b ∷ bs ≡ front ++ (last ∷ [])) × (length front ≡ length bs)
last_apart b [] = ([], b, refl, refl)
last_apart b (c ∷ cs) =
    let (front, last, e, m) = last_apart c cs in
    (b ∷ front, last, ap (λ l. b ∷ l) e, ap (λ n. suc n) m)

module _ (s : Setup) (law : Lawful s) where
  -- a next goes one place on, and the other acts stay
  act-moves : (v : View) → 1 ≤ v.stand.place → v.stand.place ≤ objects s → (act : Act) (bytes : List ℕ) → GoesOn s (record { act = act; bytes = bytes }) → (plain_act s v act bytes).2.stand.place ≡ v.stand.place + cond (is_next act) 1 0
  act-moves v from upto Next bytes h =
      let (w, e) = (complete s law).at_within v.stand.place from upto in
      ap (λ spot. (places.next_from s v.stand spot).1.place) e
  act-moves v from upto Restart bytes h = absurd (h.0 refl)
  act-moves v from upto Read bytes h = omega arith
  act-moves v from upto (Save job) bytes h = omega arith
  act-moves v from upto (Resume job) bytes h =
      let (refusal, e) = h.1 job refl in
      let same = ap (λ q. (places.resume_to s v.stand q).1.place) e in
      omega arith
  act-moves v from upto TallyAct bytes h = omega arith

  act-ungranted : (v : View) (o : Order) → GoesOn s o → Ungranted (noted o.act (plain_act s v o.act o.bytes))
  act-ungranted v o h job f =
      let (refusal, e) = h.1 job f in (
        refusal,
        ap (λ act. (plain_act s v act o.bytes).0) f
            ∙ ap (λ q. done (places.resume_to s v.stand q).0) e,
      )

  -- as many nexts as are left, the last one after all other acts
  nexts-reach : (v : View) → 1 ≤ v.stand.place → (os : List Order) (bytes : List ℕ) → AllByRecursion (GoesOn s) os → nexts os + v.stand.place ≡ objects s → Reaching s v (os ++ (next_order bytes ∷ []))
  unfolding plain_run
  nexts-reach v from [] bytes h n =
      let p = v.stand.place in
      let (w, e) = (complete s law).at_within p from (omega arith) in
      let beyond = (complete s law).at_beyond (p + 1) (omega arith) in
      record {
        before = [];
        last = noted Next (plain_act s v Next bytes);
        entries = refl;
        next = refl;
        ends =
            ap (λ spot. found (places.next_from s v.stand spot).0) e
            ∙ ap (λ spot. found (Ok (places.rank_at s spot))) beyond;
        onward = tt;
      }
  nexts-reach v from (o ∷ os) bytes h n =
      let r = plain_act s v o.act o.bytes in
      let moves = act-moves v from (omega arith) o.act o.bytes h.0 in
      let k = nexts-reach r.2 (omega arith) os bytes h.1 (omega arith) in
      record {
        before = noted o.act r ∷ k.before;
        last = k.last;
        entries = ap (λ es. noted o.act r ∷ es) {y = k.before ++ (k.last ∷ [])} k.entries;
        next = k.next;
        ends = k.ends;
        onward = ((h.0.0, act-ungranted v o h.0), k.onward);
      }

  among-others : (os : List Order) (bytes : List ℕ) → AllByRecursion (GoesOn s) os → nexts os + 1 ≡ objects s → ToTheEnd s (os ++ (next_order bytes ∷ []))
  among-others os bytes h n =
      let k = nexts-reach (begun s) (omega arith) os bytes h n in
      record {
        before = k.before;
        last = k.last;
        entries = k.entries;
        next = k.next;
        ends = k.ends;
        onward = k.onward;
      }

  -- nothing but nexts
  next-go-on : (bytes : List ℕ) → GoesOn s (next_order bytes)
  next-go-on bytes = (
    λ f. let z : ◌≡◌ {A = ℕ} 0 1 = cc in absurd (omega arith),
    λ job f. let z : ◌≡◌ {A = ℕ} 0 1 = cc in absurd (omega arith),
  )

  nexts-go-on : (buffers : List (List ℕ)) → AllByRecursion (GoesOn s) (map next_order buffers)
  nexts-go-on [] = tt
  nexts-go-on (b ∷ bs) = (next-go-on b, nexts-go-on bs)

  nexts-counted : (buffers : List (List ℕ)) → nexts (map next_order buffers) ≡ length buffers
  nexts-counted [] = refl
  nexts-counted (b ∷ bs) = let k = nexts-counted bs in omega arith

  by-nexts : (buffers : List (List ℕ)) → length buffers ≡ objects s → ToTheEnd s (map next_order buffers)
  by-nexts [] n =
      let some = on_within s law 1 s.root (complete s law).root_first in
      absurd (omega arith)
  by-nexts (b ∷ bs) n =
      let (front, last, e, m) = last_apart b bs in
      let k = nexts-counted front in
      subst (ToTheEnd s) (sym (ap (map next_order) e ∙ map-append next_order front (last ∷ [])))
      (among-others (map next_order front) last (nexts-go-on front) (omega arith))

  -- from the beginning
  reaching-finishes : (os : List Order) → ToTheEnd s os → Finished s (plain_run s (begun s) os).0
  reaching-finishes os t =
      let none = All-weaker _ Ungranted (λ e h. h.1) t.before t.onward in
      let (objects, steps) = run_since s law os (plain_run s (begun s) os).0 refl [] t.before [] t.last t.entries (inl refl) none t.next t.ends in
      record {
        before = t.before;
        last = t.last;
        entries_are = t.entries;
        next = t.next;
        ends = t.ends;
        objects_are = objects;
        steps_are = steps;
      }

  after-restart : (os : List Order) (bytes : List ℕ) (later : List Order) → ToTheEnd s later → Finished s (plain_run s (begun s) (os ++ (record { act = Restart; bytes = bytes } ∷ later))).0
  unfolding plain_run
  after-restart os bytes later t =
      let v = (plain_run s (begun s) os).1 in
      let restart : Order = record { act = Restart; bytes = bytes } in
      subst (Finished s) (sym (ap (λ q. q.0) (run_append s (begun s) os (restart ∷ later))))
      (behind s (plain_run s (begun s) os).0 _
      (behind s (noted Restart (plain_act s v Restart bytes) ∷ []) (plain_run s (begun s) later).0 (reaching-finishes later t)))

  pub restart_counts : RestartCounts s
  restart_counts = record { finishes = after-restart; by_nexts = by-nexts; among_others = among-others }

  -- the current object is the one at the place
  record Settled (here : Stand) : Type 0 where
    from : 1 ≤ here.place
    stands : here ≡ standing_at s here.place

  next-settled : (here : Stand) → Settled here → (spot : Spot) → Settled (places.next_from s here spot).1
  next-settled here h past = h
  next-settled here h (on w) = record { from = omega arith; stands = refl }

  resume-settled : (here : Stand) → Settled here → (q : Result Code Refusal) → Settled (places.resume_to s here q).1
  resume-settled here h (Err e) = h
  resume-settled here h (Ok w) = record { from = place_positive w (listing s); stands = refl }

  act-settled : (v : View) → Settled v.stand → (act : Act) (bytes : List ℕ) → Settled (plain_act s v act bytes).2.stand
  act-settled v h Next bytes = next-settled v.stand h (at s v.stand.place)
  act-settled v h Restart bytes = record { from = omega arith; stands = refl }
  act-settled v h Read bytes = h
  act-settled v h (Save job) bytes = h
  act-settled v h (Resume job) bytes = resume-settled v.stand h (opened job s bytes)
  act-settled v h TallyAct bytes = h

  run-settled : (v : View) → Settled v.stand → (os : List Order) → Settled (plain_run s v os).1.stand
  unfolding plain_run
  run-settled v h [] = h
  run-settled v h (o ∷ os) = run-settled (plain_act s v o.act o.bytes).2 (act-settled v h o.act o.bytes) os

  saved-again : (v : View) → Settled v.stand → (later : List Order) (job : ℕ) (bytes : List ℕ) → v.stand.place ≤ objects s → job < 4294967296 → 512 ≤ length bytes → Returned s job bytes v later
  saved-again v h later job bytes upto fits room =
      let p = v.stand.place in
      let (w, e) = (complete s law).at_within p h.from upto in
      let o = (complete s law).at_object w p e in
      let out = block job s w ++ drop 512 bytes in
      let front = take_at (block job s w) (drop 512 bytes) 512 (block_length s law w o job fits) in
      let short : ltb (length bytes) 512 ≡ false = le-ltb (length bytes) 512 room in
      let back = stand_at s law p w e ∙ sym h.stands in
      record {
        written = out;
        saved =
            ap (λ q. (done q.0, q.1, v))
            (ap (places.save_from job s bytes) e ∙ ap (λ b. placed b (block job s w) bytes) short);
        resumed =
            ap (λ q. (done q.0, take 512 out, q.1))
            (reopened job s law w o fits out front s refl (plain_run s v later).1
            ∙ ap (λ st. (Ok tt, record { stand = st; tally = cleared })) back);
      }

  pub save_resumes : SaveResumes s
  save_resumes first later job bytes upto fits room =
      saved-again (plain_run s (begun s) first).1
      (run-settled (begun s) (record { from = omega arith; stands = refl }) first)
      later
      job
      bytes
      upto
      fits
      room
