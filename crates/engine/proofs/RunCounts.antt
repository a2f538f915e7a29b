-- The tally along a run: at each end of the list that was reached without a resume, it is whole.
use Rattle.std.proofs.Common.{◌≡◌, ℕ, ◌+◌, Bool, true, List, [], ◌∷◌, ◌++◌, Ok, Err, Result, sym, refl, ap, ◌∙◌, subst, inl, inr, arith}
use Rattle.std.proofs.lemmas.List.{append_assoc}
use Rattle.std.specs.List.{AllByRecursion}
use Rattle.refusals.specs.declared.Refusal.{Refusal}
use Rattle.oracle.specs.Laws.{Lawful}
use Rattle.oracle.specs.Places.{at}
use Rattle.oracle.specs.Setup.{Code, Setup}
use Rattle.oracle.specs.Walk.{Spot, on, past}
use Rattle.marks.specs.Opening.{opened}
use Rattle.engine.proofs.WholeTally.{Tallied, made, first_tallied, next_tallied, past_whole}
use Rattle.engine.specs.Acts.{found, done, plain_act}
use Rattle.engine.specs.Counts.{unless_granted, unresumed_after, unresumed, whole_tally, Counted, Fresh, Since}
use Rattle.engine.specs.Places as places
use Rattle.engine.specs.Runs.{Order, Entry, Ungranted, plain_run}
use Rattle.engine.specs.Stand.{Stand}
use Rattle.engine.specs.Tallies as tallies
use Rattle.engine.specs.Tallies.{booked}
use Rattle.engine.specs.View.{View, begun}
use Rattle.engine.specs.declared.act.Act.{Act}
use Rattle.engine.specs.declared.act.Act.TheVariants.{Next, Restart, Read, Save, Resume, Tally as TallyAct}
use Rattle.engine.specs.declared.act.Answer.{Answer}
use Rattle.engine.specs.declared.act.Answer.TheVariants.{End}
use Rattle.engine.specs.declared.tally.Tally.{Tally}

-- the statement from an entry on
CountedFrom : Setup → Bool → List Entry → Type 0
CountedFrom s whole [] = Unit {0}
CountedFrom s whole (e ∷ es) =
    (whole ≡ true → e.act ≡ Next → e.answer ≡ Ok End → e.tally ≡ whole_tally s) × CountedFrom s (unresumed_after whole e.act e.answer) es

split : (s : Setup) (whole : Bool) (before after : List Entry) (e : Entry) → CountedFrom s whole (before ++ (e ∷ after)) → e.act ≡ Next → e.answer ≡ Ok End → unresumed whole before ≡ true → e.tally ≡ whole_tally s
unfolding CountedFrom unresumed
split s whole [] after e h a r u = h.0 u a r
split s whole (x ∷ xs) after e h a r u =
    split s (unresumed_after whole x.act x.answer) xs after e h.1 a r u

-- one list of acts after another
unresumed_append : (whole : Bool) (xs ys : List Entry) → unresumed whole (xs ++ ys) ≡ unresumed (unresumed whole xs) ys
unfolding unresumed
unresumed_append whole [] ys = refl
unresumed_append whole (x ∷ xs) ys = unresumed_append (unresumed_after whole x.act x.answer) xs ys

-- a restart, or the beginning, makes it true whatever was before
fresh_unresumed : (xs : List Entry) → Fresh xs → unresumed true xs ≡ true
unfolding unresumed
fresh_unresumed xs (inl e) = ap (unresumed true) e
fresh_unresumed xs (inr (before, restart, e, r)) =
    ap (unresumed true) e
    ∙ unresumed_append true before (restart ∷ [])
    ∙ ap (λ a. unresumed_after (unresumed true before) a restart.answer) r

refused_unresumed : (a : Result Answer Refusal) → (refusal : Refusal) × (a ≡ Err refusal) → unless_granted true a ≡ true
refused_unresumed a (refusal, e) = ap (unless_granted true) e

-- an act that is no granted resume keeps it true
act_unresumed : (act : Act) (a : Result Answer Refusal) → ((job : ℕ) → act ≡ Resume job → (refusal : Refusal) × (a ≡ Err refusal)) → unresumed_after true act a ≡ true
act_unresumed Next a h = refl
act_unresumed Restart a h = refl
act_unresumed Read a h = refl
act_unresumed (Save job) a h = refl
act_unresumed (Resume job) a h = refused_unresumed a (h job refl)
act_unresumed TallyAct a h = refl

ungranted_unresumed : (xs : List Entry) → AllByRecursion Ungranted xs → unresumed true xs ≡ true
unfolding unresumed
ungranted_unresumed [] h = refl
ungranted_unresumed (x ∷ xs) h =
    ap (λ whole. unresumed whole xs) (act_unresumed x.act x.answer h.0)
    ∙ ungranted_unresumed xs h.1

-- so the law holds wherever the tallies are counted
counted_since : (s : Setup) (entries : List Entry) → Counted s entries → Since s entries
counted_since s entries c before between after e f fresh none a r =
    let whole =
    unresumed_append true before between
    ∙ ap (λ w. unresumed w between) (fresh_unresumed before fresh)
    ∙ ungranted_unresumed between none in
    let t = c (before ++ between) after e (f ∙ sym (append_assoc before between (e ∷ after))) a r whole in
    (ap (λ (x : Tally). x.objects) t, ap (λ (x : Tally). x.steps) t)

module _ (s : Setup) (law : Lawful s) where
  -- a next keeps the tally in step with the place
  pub next_kept : (here : Stand) (t : Tally) → Tallied s here.place t → (spot : Spot) → at s here.place ≡ spot → Tallied s (places.next_from s here spot).1.place (tallies.booked_from s here.place t spot)
  next_kept here t h past e = h
  next_kept here t h (on w) e = next_tallied s law here.place t w e h (at s (here.place + 1)) refl

  -- a next that answers the end leaves the whole tally
  pub next_ends : (here : Stand) (t : Tally) → Tallied s here.place t → (spot : Spot) → at s here.place ≡ spot → found (places.next_from s here spot).0 ≡ Ok End → tallies.booked_from s here.place t spot ≡ whole_tally s
  next_ends here t h past e a = let z : ◌≡◌ {A = ℕ} 0 1 = cc in absurd (omega arith)
  next_ends here t h (on w) e a = go (at s (here.place + 1)) refl a
    where
      go : (there : Spot) → at s (here.place + 1) ≡ there → found (Ok (places.rank_at s there)) ≡ Ok End → booked there (made s w) t ≡ whole_tally s
      go (on x) f b = let z : ◌≡◌ {A = ℕ} 0 1 = cc in absurd (omega arith)
      go past f b = past_whole s law (here.place + 1) (booked past (made s w) t) (next_tallied s law here.place t w e h past f) f

  Kept : Bool → View → Type 0
  Kept whole v = whole ≡ true → Tallied s v.stand.place v.tally

  resume-kept : (v : View) (whole : Bool) → Kept whole v → (q : Result Code Refusal) → Kept (unless_granted whole (done (places.resume_to s v.stand q).0)) (record { stand = (places.resume_to s v.stand q).1; tally = tallies.cleared_by v.tally q })
  unfolding Kept
  resume-kept v whole k (Err e) = k
  resume-kept v whole k (Ok w) = λ e. let z : ◌≡◌ {A = ℕ} 0 1 = cc in absurd (omega arith)

  act-kept : (v : View) (whole : Bool) → Kept whole v → (act : Act) (bytes : List ℕ) → Kept (unresumed_after whole act (plain_act s v act bytes).0) (plain_act s v act bytes).2
  unfolding Kept
  act-kept v whole k Next bytes = λ e. next_kept v.stand v.tally (k e) (at s v.stand.place) refl
  act-kept v whole k Restart bytes = λ e. first_tallied s law
  act-kept v whole k Read bytes = k
  act-kept v whole k (Save job) bytes = k
  act-kept v whole k (Resume job) bytes = resume-kept v whole k (opened job s bytes)
  act-kept v whole k TallyAct bytes = k

  act-ends : (v : View) (act : Act) (bytes : List ℕ) → Tallied s v.stand.place v.tally → act ≡ Next → (plain_act s v act bytes).0 ≡ Ok End → (plain_act s v act bytes).2.tally ≡ whole_tally s
  act-ends v act bytes h e a =
      ap (λ x. (plain_act s v x bytes).2.tally) e
      ∙ next_ends v.stand v.tally h (at s v.stand.place) refl (sym (ap (λ x. (plain_act s v x bytes).0) e) ∙ a)

  run-from : (v : View) (whole : Bool) → Kept whole v → (os : List Order) → CountedFrom s whole (plain_run s v os).0
  unfolding CountedFrom Kept plain_run
  run-from v whole k [] = tt
  run-from v whole k (o ∷ os) =
      let r = plain_act s v o.act o.bytes in (
        λ u a e. act-ends v o.act o.bytes (k u) a e,
        run-from r.2 (unresumed_after whole o.act r.0) (act-kept v whole k o.act o.bytes) os,
      )

  pub run_counted : (os : List Order) (entries : List Entry) → entries ≡ (plain_run s (begun s) os).0 → Counted s entries
  unfolding Kept
  run_counted os entries e before after x f a r u =
      split s true before after x (subst (CountedFrom s true) (sym e ∙ f) (run-from (begun s) true (λ _. first_tallied s law) os)) a r u

  pub run_since : (os : List Order) (entries : List Entry) → entries ≡ (plain_run s (begun s) os).0 → Since s entries
  run_since os entries e = counted_since s entries (run_counted os entries e)
