-- Acts that are carried out line by line.
use Rattle.std.proofs.Common.{◌≡◌, ℕ, ◌+◌, ◌<◌, ◌≤◌, true, false, eqb, List, [], ◌∷◌, ◌++◌, map, length, take, is_ok, is_err, if◌then◌else◌, Some, None, Ok, Err, Option, Result, Vec, vec_items, vec_len, vec_capacity, sym, refl, ap, ◌∙◌, subst, arith, length-append, append_assoc}
use Rattle.std.proofs.lemmas.List.{append-nil, take-append-le, take_all}
use Rattle.std.specs.List.{concat}
use Rattle.std.specs.declared.alloc.AllocError.{AllocError}
use Rattle.std.specs.declared.alloc.Global.{Global}
use Rattle.refusals.specs.declared.Refusal.{Refusal}
use Rattle.refusals.specs.declared.Refusal.TheVariants.{BlockSize}
use Rattle.oracle.specs.Setup.{Code, Setup}
use Rattle.oracle.specs.declared.walking.Walking.{Ghosts}
use Rattle.marks.specs.Layout.{edition}
use Rattle.marks.specs.Opening.{checks, decoded, examined, job_in, size_in, well_formed}
use Rattle.engine.specs.Acts.{done, plain_act}
use Rattle.engine.specs.Places.{resume_to}
use Rattle.engine.specs.Runs.{Order, Entry, noted, plain_run}
use Rattle.engine.specs.Seen.{Seen}
use Rattle.engine.specs.Tallies.{cleared_by}
use Rattle.engine.specs.View.{View}
use Rattle.engine.specs.declared.act.Act.{Act}
use Rattle.engine.specs.declared.act.Act.TheVariants.{Next, Restart, Read, Save, Resume, Tally as TallyAct}
use Rattle.engine.specs.declared.act.Answer.{Answer}
use Rattle.engine.specs.declared.act.Answer.TheVariants.{Rank, End, Done, Counts}
use Rattle.lines.specs.Appended.{Line}
use Rattle.lines.specs.Texts.{counts_room, hexed}
use Rattle.pages.proofs.Turned.{joined_append}
use Rattle.pages.specs.Turns.{Listed}
use Rattle.protocols.specs.Laws.{Begins, Written}
use Rattle.protocols.specs.Reading.{ordered, requests_in, unreadable_of}
use Rattle.protocols.specs.Requests.{Request, text_of, protocol_of, order_for}
use Rattle.protocols.proofs.Firsts.{shorter}
use Rattle.protocols.proofs.HexDigits.{length_hexed}
use Rattle.printouts.specs.Answers.{answer_room, answer_text, entry_room, entry_text}
use Rattle.printouts.specs.Carried.{Carried}
use Rattle.printouts.specs.Printed.{lines_behind, protocol_lines, run_lines, unreadable_text}

clash : {X : Type 0} (x : X) {Y : Type 0} → ◌≡◌ {A = Option X} None (Some x) → Y
clash x e = absurd (let z : ◌≡◌ {A = ℕ} 0 1 = cc in omega arith)

-- ---- one act

-- a line needs little more room than its bytes
pub room_fits : (act : Act) (bytes : List ℕ) (answer : Result Answer Refusal) → answer_room act bytes answer ≤ length (answer_text act bytes answer) + counts_room
room_fits act bytes (Ok (Rank rank)) = omega arith
room_fits act bytes (Ok End) = omega arith
room_fits Read bytes (Ok Done) =
    let long = length_hexed bytes in
    omega (arith, length-append (hexed bytes) (10 ∷ []))
room_fits (Save job) bytes (Ok Done) =
    let long = length_hexed bytes in
    omega (arith, length-append (hexed bytes) (10 ∷ []))
room_fits Next bytes (Ok Done) = omega arith
room_fits Restart bytes (Ok Done) = omega arith
room_fits (Resume job) bytes (Ok Done) = omega arith
room_fits TallyAct bytes (Ok Done) = omega arith
room_fits act bytes (Ok (Counts t)) = omega arith
room_fits act bytes (Err refusal) = omega arith

-- a resume whose opening comes to this
resumed : Setup → View → List ℕ → Result Code Refusal → Result Answer Refusal × List ℕ × View
resumed s v bytes o = (
  done (resume_to s v.stand o).0,
  bytes,
  record { stand = (resume_to s v.stand o).1; tally = cleared_by v.tally o },
)

-- one with bytes of another length than a block's is refused
other_resume : (s : Setup) (v : View) (job : ℕ) (bytes : List ℕ) → eqb (length bytes) 512 ≡ false → plain_act s v (Resume job) bytes ≡ resumed s v bytes (Err BlockSize)
unfolding resumed
other_resume s v job bytes e =
    ap (λ t. resumed s v bytes (decoded s bytes (examined t (checks bytes) (well_formed (edition s) bytes) (eqb (job_in bytes) job) (size_in bytes)))) e

module _ {O : Type 0} (setup : O → Setup) (before after : Seen O) (old new : Vec ℕ Global) (r : Result (Unit {0}) AllocError) where
  -- with the same bytes
  pub carried_with : (act : Act) (a b : List ℕ) → a ≡ b → Carried setup before (record { act = act; bytes = a }) old r after new → Carried setup before (record { act = act; bytes = b }) old r after new
  carried_with act a b e h = subst (λ (bytes : List ℕ). Carried setup before (record { act = act; bytes = bytes }) old r after new) e h

  -- with no bytes in place of those of another length than a block's
  pub carried_refused : (job : ℕ) (bytes : List ℕ) → eqb (length bytes) 512 ≡ false → Carried setup before (record { act = Resume job; bytes = [] }) old r after new → Carried setup before (record { act = Resume job; bytes = bytes }) old r after new
  unfolding resumed
  carried_refused job bytes e h =
      let same = other_resume (setup before.oracle) before.view job bytes e in
      record {
        same = h.same;
        stands = h.stands ∙ sym (ap (λ (x : Result Answer Refusal × List ℕ × View). x.2) same);
        line =
            subst (λ (x : Result Answer Refusal × List ℕ × View). Line old r new (entry_text (noted (Resume job) x)) (entry_room (noted (Resume job) x))) (sym same) h.line;
      }

-- ---- the acts that are left

pub next_left : (rest : List ℕ) (qs : List Request) (q : Request) (r : List ℕ) → Written rest qs → Begins rest (Some (q, r)) → (ps : List Request) × ((qs ≡ q ∷ ps) × Written r ps)
unfolding protocol_of
next_left rest [] q r w begins =
    let less = shorter rest q r begins in
    let none = ap length w.1 in
    absurd (omega arith)
next_left rest (p ∷ ps) q r w begins =
    let found : ◌≡◌ {A = Option (Request × List ℕ)} (Some (q, r)) (Some (p, protocol_of ps)) =
    (begins p (protocol_of ps)).1 (w.0.0, w.1 ∙ append_assoc (text_of p) (10 ∷ []) (protocol_of ps)) in
    let same : (q, r) ≡ (p, protocol_of ps) = cc in
    let first : q ≡ p = ap (λ (x : Request × List ℕ). x.0) same in
    let last : r ≡ protocol_of ps = ap (λ (x : Request × List ℕ). x.1) same in
    (ps, (ap (λ x. x ∷ ps) (sym first), (w.0.1, last)))

none_left : (rest : List ℕ) (qs : List Request) → Written rest qs → Begins rest None → qs ≡ []
unfolding protocol_of
none_left rest [] w begins = refl
none_left rest (p ∷ ps) w begins =
    clash (p, protocol_of ps)
    ((begins p (protocol_of ps)).1 (w.0.0, w.1 ∙ append_assoc (text_of p) (10 ∷ []) (protocol_of ps)))

abbrev act_entry : Setup → View → Order → Entry
act_entry s v o = noted o.act (plain_act s v o.act o.bytes)

-- the line of an act, and those behind it
line_on : (s : Setup) (v after : View) (q : Request) (qs : List Request) → after ≡ (plain_act s v (order_for q).act (order_for q).bytes).2 → lines_behind s v (map order_for (q ∷ qs)) ≡ entry_text (act_entry s v (order_for q)) ∷ lines_behind s after (map order_for qs)
unfolding plain_run
line_on s v after q qs e =
    ap (λ (w : View). entry_text (act_entry s v (order_for q)) ∷ lines_behind s w (map order_for qs)) (sym e)

no_lines : (s : Setup) (v : View) → lines_behind s v [] ≡ []
unfolding plain_run
no_lines s v = refl

-- behind some of the acts: their lines are written, and those of the acts left are the others
pub record Carrying (O : Type 0) (W : Ghosts O) (s : Setup) (lines : List (List ℕ)) (now : Seen O) (rest : List ℕ) (before out : Vec ℕ Global) : Type 0 where
  pub same : W.setup now.oracle ≡ s
  pub capacity : vec_capacity before ≤ vec_capacity out
  pub left : List Request
  pub written : Written rest left
  pub done : List (List ℕ)
  pub so_far : vec_items out ≡ vec_items before ++ concat done
  pub joined : done ++ lines_behind s now.view (map order_for left) ≡ lines

module _ (O : Type 0) (W : Ghosts O) (s : Setup) (lines : List (List ℕ)) (now : Seen O) (rest : List ℕ) (before out : Vec ℕ Global) where
  -- before the first act
  pub carrying_first : (qs : List Request) → W.setup now.oracle ≡ s → Written rest qs → lines_behind s now.view (map order_for qs) ≡ lines → vec_items out ≡ vec_items before → vec_capacity before ≤ vec_capacity out → Carrying O W s lines now rest before out
  carrying_first qs same w e items cap =
      record { same = same; capacity = cap; left = qs; written = w; done = []; so_far = items ∙ sym (append-nil (vec_items before)); joined = e }

  -- behind the last act
  pub carrying_end : Carrying O W s lines now rest before out → Begins rest None → vec_items out ≡ vec_items before ++ concat lines
  carrying_end c begins =
      let none : lines_behind s now.view (map order_for c.left) ≡ [] =
      ap (λ qs. lines_behind s now.view (map order_for qs)) (none_left rest c.left c.written begins) ∙ no_lines s now.view in
      c.so_far
      ∙ ap (λ ls. vec_items before ++ concat ls) (sym (append-nil c.done) ∙ ap (λ ls. c.done ++ ls) (sym none) ∙ c.joined)

  module _ (q : Request) (r : List ℕ) (after : Seen O) (new : Vec ℕ Global) (result : Result (Unit {0}) AllocError) (c : Carrying O W s lines now rest before out) (begins : Begins rest (Some (q, r))) (d : Carried W.setup now (order_for q) out result after new) where
    abbrev text : List ℕ
    text = entry_text (act_entry (W.setup now.oracle) now.view (order_for q))

    abbrev behind : List (List ℕ)
    behind = lines_behind s after.view (map order_for (next_left rest c.left q r c.written begins).0)

    -- the line of this act, and those of the others
    parts : c.done ++ (text ∷ behind) ≡ lines
    parts =
        let next = next_left rest c.left q r c.written begins in
        let stands : after.view ≡ (plain_act s now.view (order_for q).act (order_for q).bytes).2 =
        d.stands ∙ ap (λ (n : Setup). (plain_act n now.view (order_for q).act (order_for q).bytes).2) c.same in
        ap (λ (n : Setup). c.done ++ (entry_text (act_entry n now.view (order_for q)) ∷ behind)) c.same
        ∙ ap (λ ls. c.done ++ ls) (sym (line_on s now.view after.view q next.0 stands))
        ∙ ap (λ qs. c.done ++ lines_behind s now.view (map order_for qs)) (sym next.1.0)
        ∙ c.joined

    appended : is_ok result ≡ true → vec_items new ≡ vec_items before ++ concat (c.done ++ (text ∷ []))
    appended ok =
        d.line.items
        ∙ ap (λ b. if b then vec_items out ++ text else vec_items out) ok
        ∙ ap (λ xs. xs ++ text) c.so_far
        ∙ append_assoc (vec_items before) (concat c.done) text
        ∙ ap (λ xs. vec_items before ++ (concat c.done ++ xs)) (sym (append-nil text))
        ∙ ap (λ xs. vec_items before ++ xs) (sym (joined_append c.done (text ∷ [])))

    pub carrying_on : is_ok result ≡ true → Carrying O W s lines after r before new
    carrying_on ok =
        let grown = d.line.capacity in
        let held = c.capacity in
        let next = next_left rest c.left q r c.written begins in
        record {
          same = d.same ∙ c.same;
          capacity = omega arith;
          left = next.0;
          written = next.1.1;
          done = c.done ++ (text ∷ []);
          so_far = appended ok;
          joined = append_assoc c.done (text ∷ []) behind ∙ parts;
        }

    some : length c.done < length lines
    some =
        let long = ap length parts in
        let sum = length-append c.done (text ∷ behind) in
        omega arith

    -- where there is no memory for its line
    pub carrying_short : (told : Result (Unit {0}) AllocError) → is_ok result ≡ false → is_err told ≡ true → Listed (vec_items before) lines told (vec_items new)
    carrying_short (Ok u) failed e = let z : ◌≡◌ {A = ℕ} 0 1 = cc in absurd (omega arith)
    carrying_short (Err x) failed e = (
      length c.done,
      some,
      d.line.items
          ∙ ap (λ b. if b then vec_items out ++ text else vec_items out) failed
          ∙ c.so_far
          ∙ ap (λ ls. vec_items before ++ concat ls)
          (sym (take_all (length c.done) c.done (omega arith)) ∙ sym (take-append-le (length c.done) c.done (text ∷ behind) (omega arith)) ∙ ap (λ ls. take (length c.done) ls) parts),
    )

    -- with room for all lines there is room for this one
    pub carrying_room : vec_len before + (length (concat lines) + counts_room) ≤ vec_capacity before → is_ok result ≡ true
    carrying_room enough =
        let o = order_for q in
        let p = plain_act (W.setup now.oracle) now.view o.act o.bytes in
        let fits = room_fits o.act p.1 p.0 in
        let held = c.capacity in
        let whole = ap (λ ls. length (concat ls)) parts in
        let join = ap length (joined_append c.done (text ∷ behind)) in
        let front = length-append (concat c.done) (concat (text ∷ behind)) in
        let back = length-append text (concat behind) in
        let now_long = ap length c.so_far in
        let sum = length-append (vec_items before) (concat c.done) in
        d.line.succeeds (omega (arith, before.ok.0, out.ok.0))

-- ---- a line that is unreadable

pub unreadable_lines : (s : Setup) (acts : List ℕ) (n : ℕ) → Some n ≡ unreadable_of (requests_in acts) → unreadable_text n ∷ [] ≡ protocol_lines s acts
unreadable_lines s acts n e = go (requests_in acts) refl
  where
    go : (x : Result (List Request) ℕ) → requests_in acts ≡ x → unreadable_text n ∷ [] ≡ protocol_lines s acts
    go (Ok qs) f = clash n (sym (e ∙ ap unreadable_of f))
    go (Err m) f =
        let got : Some n ≡ Some m = e ∙ ap unreadable_of f in
        let same : n ≡ m = cc in
        ap (λ k. unreadable_text k ∷ []) same ∙ sym (ap (λ x. run_lines s (ordered x)) f)
