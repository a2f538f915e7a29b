-- What a step below tells of the capped step, and a code taken below of the capped take.
use Rattle.std.proofs.Common.{◌≡◌, ℕ, ◌<◌, ◌≤◌, Bool, true, false, ltb, leb, List, ◌++◌, length, take, drop, Some, None, Ok, Err, Option, Result, sym, refl, ap, ◌∙◌, arith}
use Rattle.std.proofs.lemmas.List.{take_at}
use Rattle.std.proofs.lemmas.Bool.{ltb-true, lt-ltb, le-ltb, lt-leb, and_right, cond-false}
use Rattle.refusals.specs.declared.Refusal.{Refusal}
use Rattle.refusals.specs.declared.Refusal.TheVariants.{BufferShort, NotACode, SlotRange}
use Rattle.oracle.specs.Calls.{into, stepped, written, taken}
use Rattle.oracle.specs.Laws.{Object, Lawful}
use Rattle.oracle.specs.Setup.{Code, Setup, Slot, vacant, filled}
use Rattle.cap.specs.Capped.{kept, capped}
use Rattle.cap.specs.Laws.{kept_low}

Answer : Type 0
Answer = Result (Option ℕ) Refusal × Code

by_width : Code → Slot → Bool → Result (Option ℕ) Refusal × Code
by_width v x t = elim t [ true ↦ into v x | false ↦ (Err SlotRange, v) ]

module _ (s : Setup) (v : Code) (j : ℕ) where
  below : j < s.width → stepped s v j ≡ into v (s.slot v j)
  unfolding by_width
  below h = ap (by_width v (s.slot v j)) (lt-ltb j s.width h)

  -- a step that is not refused was by a slot below the width
  granted : (r : Option ℕ) (u : Code) → (Ok r, u) ≡ stepped s v j → (j < s.width) × ((Ok r, u) ≡ into v (s.slot v j))
  unfolding by_width
  granted r u e = go (ltb j s.width) refl
    where
      go : (t : Bool) → ltb j s.width ≡ t → (j < s.width) × ((Ok r, u) ≡ into v (s.slot v j))
      go true f = (ltb-true j s.width f, e ∙ ap (by_width v (s.slot v j)) f)
      go false f =
          let same : ◌≡◌ {A = Result (Option ℕ) Refusal} (Ok r) (Err SlotRange) = ap (λ (p : Result (Option ℕ) Refusal × Code). p.0) (e ∙ ap (by_width v (s.slot v j)) f) in
          absurd (let z : ◌≡◌ {A = ℕ} 0 1 = cc in omega arith)

  was-filled : (k : ℕ) (w : Code) (x : Slot) → (Ok (Some k), w) ≡ into v x → x ≡ filled w k
  was-filled k w vacant e =
      let same : ◌≡◌ {A = Result (Option ℕ) Refusal} (Ok (Some k)) (Ok None) = ap (λ (p : Result (Option ℕ) Refusal × Code). p.0) e in
      absurd (let z : ◌≡◌ {A = ℕ} 0 1 = cc in omega arith)
  was-filled k w (filled u i) e =
      let same : ◌≡◌ {A = Result (Option ℕ) Refusal} (Ok (Some k)) (Ok (Some i)) = ap (λ (p : Result (Option ℕ) Refusal × Code). p.0) e in
      let here : w ≡ u = ap (λ (p : Result (Option ℕ) Refusal × Code). p.1) e in
      cc

  was-vacant : (u : Code) (x : Slot) → (Ok None, u) ≡ into v x → (x ≡ vacant) × (u ≡ v)
  was-vacant u vacant e = (refl, ap (λ (p : Result (Option ℕ) Refusal × Code). p.1) e)
  was-vacant u (filled w k) e =
      let same : ◌≡◌ {A = Result (Option ℕ) Refusal} (Ok None) (Ok (Some k)) = ap (λ (p : Result (Option ℕ) Refusal × Code). p.0) e in
      absurd (let z : ◌≡◌ {A = ℕ} 0 1 = cc in omega arith)

-- the slot that leads above the cap is vacant
pub kept_high : (c : ℕ) (s : Setup) (w : Code) (k : ℕ) → c < s.rank w → kept c s (filled w k) ≡ vacant
unfolding kept
kept_high c s w k h = cond-false (leb (s.rank w) c) (filled w k) vacant (lt-leb (s.rank w) c h)

pub kept_vacant : (c : ℕ) (s : Setup) → kept c s vacant ≡ vacant
unfolding kept
kept_vacant c s = refl

module _ (c : ℕ) (s : Setup) (v : Code) (j : ℕ) where
  pub step_vacant : (u : Code) → (Ok None, u) ≡ stepped s v j → ((Ok None, u) ≡ stepped (capped c s) v j) × (u ≡ v)
  step_vacant u e =
      let g = granted s v j None u e in
      let f = was-vacant s v j u (s.slot v j) g.1 in (
        ap (λ x. (Ok None, x)) f.1 ∙ ap (into v) (sym (ap (kept c s) f.0 ∙ kept_vacant c s)) ∙ sym (below (capped c s) v j g.0),
        f.1,
      )

  pub step_low : (k : ℕ) (w : Code) → (Ok (Some k), w) ≡ stepped s v j → s.rank w ≤ c
      → (Ok (Some k), w) ≡ stepped (capped c s) v j
  step_low k w e low =
      let g = granted s v j (Some k) w e in
      let f = was-filled s v j k w (s.slot v j) g.1 in
      ap (into v) (sym (kept_low c s (s.slot v j) w k f low)) ∙ sym (below (capped c s) v j g.0)

  -- above the cap the step back by the return slot leads to where it came from
  pub step_high : Lawful s → Object s v → (k : ℕ) (w : Code) → (Ok (Some k), w) ≡ stepped s v j → c < s.rank w
      → (r : Result (Option ℕ) Refusal) (u : Code) → (r, u) ≡ stepped s w k
      → ((Ok None, u) ≡ stepped (capped c s) v j) × (u ≡ v)
  step_high l o k w e high r u back =
      let g = granted s v j (Some k) w e in
      let f = was-filled s v j k w (s.slot v j) g.1 in
      let home = l.return_leads_back v w j k o g.0 f in
      let less = l.return_below v w j k o g.0 f in
      let here : u ≡ v = ap (λ (p : Result (Option ℕ) Refusal × Code). p.1) (back ∙ below s w k less ∙ ap (into w) home) in (
        ap (λ x. (Ok None, x)) here
            ∙ ap (into v) (sym (ap (kept c s) f ∙ kept_high c s w k high)) ∙ sym (below (capped c s) v j g.0),
        here,
      )

-- ---- what is owed after each way through a step: the set-up below stays, whatever value it is read off

rank_at : (s t : Setup) (u v : Code) (c : ℕ) → t ≡ s → u ≡ v → s.rank v ≤ c → t.rank u ≤ c
rank_at s t u v c e f h =
    let ranks = ap (λ (x : Setup). x.rank u) e ∙ ap s.rank f in
    omega arith

module _ (c : ℕ) (s₀ s₁ : Setup) (v : Code) (j : ℕ) (same : s₁ ≡ s₀) where
  pub low_step : (k : ℕ) (w : Code) → (Ok (Some k), w) ≡ stepped s₀ v j → s₁.rank w ≤ c
      → (Ok (Some k), w) ≡ stepped (capped c s₀) v j
  low_step k w e low = step_low c s₀ v j k w e (rank_at s₁ s₀ w w c (sym same) refl low)

  pub high_step : (s₂ : Setup) → s₂ ≡ s₁ → Lawful s₀ → Object s₀ v → s₀.rank v ≤ c
      → (k : ℕ) (w : Code) → (Ok (Some k), w) ≡ stepped s₀ v j → c < s₁.rank w
      → (r : Result (Option ℕ) Refusal) (u : Code) → (r, u) ≡ stepped s₁ w k
      → ((Ok None, u) ≡ stepped (capped c s₀) v j) × (s₂.rank u ≤ c)
  high_step s₂ kept' l o low k w e high r u back =
      let ranks = ap (λ (x : Setup). x.rank w) same in
      let p = step_high c s₀ v j l o k w e (omega arith) r u (back ∙ ap (λ (x : Setup). stepped x w k) same) in
      (p.0, rank_at s₀ s₂ u v c (kept' ∙ same) p.1 low)

-- ---- a code that is taken below and given back

by_object : Code → List ℕ → Bool → Result (Unit {0}) Refusal × Code
by_object v row t = elim t [ true ↦ (Ok tt, row) | false ↦ (Err NotACode, v) ]

was_object : (s : Setup) (v : Code) (row : List ℕ) (x : Unit {0}) (w : Code) → (Ok x, w) ≡ taken s v row → (s.object row ≡ true) × (w ≡ row)
unfolding by_object
was_object s v row x w e = go (s.object row) refl
  where
    go : (t : Bool) → s.object row ≡ t → (s.object row ≡ true) × (w ≡ row)
    go true f = (f, ap (λ (p : Result (Unit {0}) Refusal × Code). p.1) (e ∙ ap (by_object v row) f))
    go false f =
        let no_code : ◌≡◌ {A = Result (Unit {0}) Refusal} (Ok x) (Err NotACode) = ap (λ (p : Result (Unit {0}) Refusal × Code). p.0) (e ∙ ap (by_object v row) f) in
        absurd (let z : ◌≡◌ {A = ℕ} 0 1 = cc in omega arith)

by_room : Setup → Code → List ℕ → Bool → Result (Unit {0}) Refusal × List ℕ
by_room s v bytes t = elim t [ true ↦ (Err BufferShort, bytes) | false ↦ (Ok tt, v ++ drop s.size bytes) ]

-- the code that was put into a buffer with room stands in front of it
held : (s : Setup) (v : Code) (bytes buffer : List ℕ) (r : Result (Unit {0}) Refusal) → length v ≡ s.size → s.size ≤ length bytes
    → (r, buffer) ≡ written s v bytes → take s.size buffer ≡ v
unfolding by_room
held s v bytes buffer r long room e =
    ap (take s.size) (ap (λ (p : Result (Unit {0}) Refusal × List ℕ). p.1) (e ∙ ap (by_room s v bytes) (le-ltb (length bytes) s.size room)))
    ∙ take_at v (drop s.size bytes) s.size long

pub high_take : (c : ℕ) (s₀ s₁ s₂ : Setup) (v : Code) (row : List ℕ) → s₁ ≡ s₀ → s₂ ≡ s₁ → Lawful s₀ → Object s₀ v → s₀.rank v ≤ c
    → (bytes buffer : List ℕ) (q : Result (Unit {0}) Refusal) → 480 ≤ length bytes → (q, buffer) ≡ written s₀ v bytes
    → (x : Unit {0}) (w : Code) → (Ok x, w) ≡ taken s₀ v row → c < s₁.rank w
    → (n : ℕ) → n ≡ s₁.size → (r : Result (Unit {0}) Refusal) (u : Code) → (r, u) ≡ taken s₁ w (take n buffer)
    → ((Err NotACode, u) ≡ taken (capped c s₀) v row) × (s₂.rank u ≤ c)
unfolding by_object
high_take c s₀ s₁ s₂ v row same kept' l o low bytes buffer q room put x w got high n size r u back =
    let was = was_object s₀ v row x w got in
    let limit = l.size_limit in
    let code = held s₀ v bytes buffer q (l.code_size v o) (omega arith) put in
    let sizes = ap (λ (t : Setup). t.size) same in
    let front : n ≡ s₀.size = omega arith in
    let row_back : take n buffer ≡ v = ap (λ m. take m buffer) front ∙ code in
    let here : u ≡ v =
    ap (λ (p : Result (Unit {0}) Refusal × Code). p.1)
    (back ∙ ap (λ (t : Setup). taken t w (take n buffer)) same ∙ ap (taken s₀ w) row_back ∙ ap (by_object w v) o) in
    let ranks = ap (λ (t : Setup). t.rank w) same ∙ ap s₀.rank was.1 in
    let above : leb (s₀.rank row) c ≡ false = lt-leb (s₀.rank row) c (omega arith) in (
      ap (λ y. (Err NotACode, y)) here ∙ sym (ap (by_object v row) (and_right (s₀.object row) (leb (s₀.rank row) c) above)),
      rank_at s₀ s₂ u v c (kept' ∙ same) here low,
    )
