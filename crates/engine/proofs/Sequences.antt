-- A list of acts, some carried out and the others left.
use Rattle.std.proofs.Common.{◌≡◌, ℕ, ◌+◌, ◌<◌, ◌≤◌, List, [], ◌∷◌, ◌++◌, map, length, get_or, take, drop, set, vec_items, sym, ap, ◌∙◌, ap₂, arith}
use Rattle.std.proofs.lemmas.List.{append_assoc, append-nil, map-append, take_all, take_more_set, drop_all, drop_more, drop-set-lt}
use Rattle.oracle.proofs.Ticks.{ticks_more}
use Rattle.oracle.specs.Outcomes.{ticks}
use Rattle.oracle.specs.Setup.{Setup}
use Rattle.oracle.specs.declared.walking.Walking.{Ghosts}
use Rattle.engine.specs.Acts.{plain_act}
use Rattle.engine.specs.Runs.{Order, Entry, order_of, entry_of, noted, plain_run}
use Rattle.engine.specs.Seen.{Seen}
use Rattle.engine.specs.Steps.{act_steps, acts_steps}
use Rattle.engine.specs.View.{View}
use Rattle.engine.specs.declared.act.Act.{Act}
use Rattle.engine.specs.declared.call.Call.{Call}
use Rattle.engine.specs.declared.tally.Tally.{Tally}

-- The entries of the first i calls, and what the plain census gives for the others from view v on.
abbrev pub joined_run : Setup → View → List Call → ℕ → List Entry × View
joined_run s v calls i =
    let rest = plain_run s v (map order_of (drop i calls)) in
    (map entry_of (take i calls) ++ rest.0, rest.1)

-- The calls of step after the first i acts, and those of the others from view v on.
abbrev pub joined_calls : (ℕ → ℕ) → Setup → View → List Call → ℕ → ℕ → ℕ
joined_calls tick s v calls i x = ticks tick (acts_steps s v (map order_of (drop i calls))) x

-- i calls are carried out, and the plain census is in step; and so are the calls of step.
pub record Running (D : Type 0) (W : Ghosts D) (start census : Seen D) (asked calls : List Call) (i : ℕ) : Type 0 where
  pub setup_same : W.setup census.oracle ≡ W.setup start.oracle
  pub in_step : joined_run (W.setup start.oracle) census.view calls i ≡ plain_run (W.setup start.oracle) start.view (map order_of asked)
  pub called : joined_calls W.tick (W.setup start.oracle) census.view calls i (W.calls census.oracle) ≡ ticks W.tick (acts_steps (W.setup start.oracle) start.view (map order_of asked)) (W.calls start.oracle)

-- the i-th call carried out
pub one_more : (s : Setup) (v after : View) (calls : List Call) (i : ℕ) (d new : Call) → i < length calls → new.act ≡ (get_or calls i d).act → new.tally ≡ after.tally → (new.answer, vec_items new.bytes, after) ≡ plain_act s v (get_or calls i d).act (vec_items (get_or calls i d).bytes) → joined_run s after (set calls i new) (i + 1) ≡ joined_run s v calls i
unfolding plain_run
one_more s v after calls i d new lt same-act same-tally e =
    ap₂ (λ t u. (map entry_of t ++ (plain_run s after (map order_of u)).0, (plain_run s after (map order_of u)).1)) (take_more_set calls i new lt) (drop-set-lt (i + 1) calls i new (omega arith))
    ∙ ap (λ t. (t, left.1)) (ap (λ t. t ++ left.0) (map-append entry_of (take i calls) (new ∷ [])) ∙ append_assoc done (entry_of new ∷ []) left.0)
    ∙ ap₂ (λ a t. (done ++ (entry a t ∷ left.0), left.1)) same-act same-tally
    ∙ ap (λ r. (done ++ (noted (get_or calls i d).act r ∷ (plain_run s r.2 asked).0), (plain_run s r.2 asked).1)) e
    ∙ sym (ap (λ u. (done ++ (plain_run s v (map order_of u)).0, (plain_run s v (map order_of u)).1)) (drop_more calls i d lt))
  where
    asked : List Order
    asked = map order_of (drop (i + 1) calls)

    left : List Entry × View
    left = plain_run s after asked

    done : List Entry
    done = map entry_of (take i calls)

    entry : Act → Tally → Entry
    entry a t = record { act = a; bytes = vec_items new.bytes; answer = new.answer; tally = t }

-- all calls carried out
pub all_done : (s : Setup) (v : View) (calls : List Call) (i : ℕ) → length calls ≤ i → (map entry_of calls, v) ≡ joined_run s v calls i
unfolding plain_run
all_done s v calls i le =
    ap (λ t. (t, v)) (sym (append-nil (map entry_of calls)))
    ∙ sym (ap₂ (λ t d. (map entry_of t ++ (plain_run s v (map order_of d)).0, (plain_run s v (map order_of d)).1)) (take_all i calls le) (drop_all i calls le))

-- the calls of step of the i-th call
pub one_more_called : (tick : ℕ → ℕ) (s : Setup) (v after : View) (calls : List Call) (i : ℕ) (d new : Call) (x y : ℕ) → i < length calls → after ≡ (plain_act s v (get_or calls i d).act (vec_items (get_or calls i d).bytes)).2 → y ≡ ticks tick (act_steps s v (get_or calls i d).act) x → joined_calls tick s after (set calls i new) (i + 1) y ≡ joined_calls tick s v calls i x
unfolding acts_steps
one_more_called tick s v after calls i d new x y lt e called =
    ap (λ u. ticks tick (acts_steps s after (map order_of u)) y) (drop-set-lt (i + 1) calls i new (omega arith))
    ∙ ap₂ (λ w n. ticks tick (acts_steps s w asked) n) e called
    ∙ ticks_more tick (act_steps s v call.act) (acts_steps s (plain_act s v call.act (vec_items call.bytes)).2 asked) x
    ∙ sym (ap (λ u. ticks tick (acts_steps s v (map order_of u)) x) (drop_more calls i d lt))
  where
    call : Call
    call = get_or calls i d

    asked : List Order
    asked = map order_of (drop (i + 1) calls)

-- no call is left
pub all_called : (tick : ℕ → ℕ) (s : Setup) (v : View) (calls : List Call) (i x : ℕ) → length calls ≤ i → x ≡ joined_calls tick s v calls i x
unfolding acts_steps ticks
all_called tick s v calls i x le =
    sym (ap (λ u. ticks tick (acts_steps s v (map order_of u)) x) (drop_all i calls le))
