-- The reader's fault is the first one: of the first line that has any, the first that applies there.
use Rattle.std.proofs.Common.{◌≡◌, ℕ, zero, suc, ◌+◌, ◌-◌, ◌<◌, ◌≤◌, Bool, true, false, cond, not, ◌&&◌, ◌||◌, eqb, leb, ◌⊎◌, ◌↔◌, List, [], ◌∷◌, ◌++◌, length, take, is_some, Some, None, Ok, Err, Option, Result, sym, refl, ap, ◌∙◌, subst, inl, inr, arith}
use Rattle.std.specs.Result.{result_ok}
use Rattle.std.proofs.lemmas.List.{append-nil, append_assoc, length-append}
use Rattle.std.proofs.lemmas.Bool.{le-leb, or_left, cond-true, cond-false, cases_lt}
use Rattle.refusals.specs.declared.Refusal.{Refusal}
use Rattle.refusals.specs.declared.Refusal.TheVariants.{FirstByte, LineForm, LineOrder, OutOfRange, BadPair, SheetShort, SheetLong}
use Rattle.items.specs.Lines.{kind_at, line_of, kind_of_line}
use Rattle.items.specs.Texts.{text_of, Short}
use Rattle.items.specs.declared.line.Kind.{Kind}
use Rattle.items.specs.declared.line.Kind.TheVariants as kind
use Rattle.items.specs.declared.line.Line.{Line}
use Rattle.items.specs.declared.line.Line.TheVariants.{Regions, Polygon, Pair, Cap, Stop}
use Rattle.items.proofs.Texts.{spells, bad_line}
use Rattle.maps.specs.Touch as touch
use Rattle.maps.specs.Touch.{bare, can_have, begun, pair_fault}
use Rattle.sheets.specs.Cut.{cut}
use Rattle.sheets.specs.Faults.{
  Here,
  whole,
  broken,
  here_at,
  value_of,
  last_kind,
  size_in,
  polygon_in,
  line_one,
  outside,
  unpaired,
  misplaced,
  fault_at,
}
use Rattle.sheets.specs.Laws.{FirstFault, Refusing}
use Rattle.sheets.specs.Order.{follows, stopped}
use Rattle.sheets.specs.Reading.{Wanted, at_line, most_bytes, at_end, wanted_by, faulted, read_from, read_all}
use Rattle.sheets.specs.Settings.{
  Settings,
  Topic,
  regions,
  polygon,
  unset,
  size_of,
  regions_with,
  polygon_with,
  pair_after,
  counted,
  with_topic,
  with_cap,
  with_most,
  set_by,
  after_line,
  most_number,
}
use Rattle.sheets.specs.declared.fault.Fault.{Fault}
use Rattle.maps.proofs.Results.{same_ok, clash}
use Rattle.maps.proofs.Tables.{begun_is}
use Rattle.sheets.proofs.Accepts.{pair_set, pair_unset, read_short, read_long}
use Rattle.sheets.proofs.Sequence.{never_again, no_true}
use Rattle.sheets.proofs.Steps.{in_place, out_of_place, settled, bytes_stopped, bytes_bad, bytes_good, read_on, read_fault}

-- ---- the fault of one line, from what the settings know of the lines before

abbrev judged : Option Kind → ℕ → Bool → Option Kind → Option Line → Option Refusal
judged j n p k v =
    cond (stopped j) (Some LineOrder)
    (cond (not (is_some k)) (Some FirstByte)
    (cond (not (is_some v)) (Some LineForm)
    (cond (misplaced j k) (Some LineOrder)
    (cond (outside n v) (Some OutOfRange) (cond (unpaired p v) (Some BadPair) None)))))

whole_fault : (before : List (List ℕ)) (l : List ℕ) → fault_at before (whole l)
    ≡ judged (last_kind before) (size_in (line_one before)) (polygon_in (line_one before)) (kind_at l) (value_of l)
unfolding fault_at
whole_fault before l = refl

abbrev topic_size : Option Topic → ℕ
topic_size None = 0
topic_size (Some t) = size_of t

abbrev topic_polygon : Option Topic → Bool
topic_polygon None = false
topic_polygon (Some (regions m)) = false
topic_polygon (Some (polygon n)) = true

abbrev some_lines : List (List ℕ) → Bool
some_lines [] = false
some_lines (l ∷ ls) = true

-- the settings know the kind of the last line, and the number and letter of line 1
record Linked (before : List (List ℕ)) (s : Settings) : Type 0 where
  last_is : s.last ≡ last_kind before
  size_is : topic_size s.topic ≡ size_in (line_one before)
  polygon_is : topic_polygon s.topic ≡ polygon_in (line_one before)
  started : is_some s.last ≡ some_lines before
  subject : is_some s.topic ≡ is_some s.last

-- the refusal of a result
abbrev refused : {X : Type 0} → Result X Refusal → Option Refusal
refused (Ok x) = None
refused (Err k) = Some k

refused_topic : (s : Settings) (k : Kind) (r : Result Topic Refusal) → refused (with_topic s k r) ≡ refused r
refused_topic s k (Ok t) = refl
refused_topic s k (Err e) = refl

refused_cap : (s : Settings) (k : Kind) (r : Result ℕ Refusal) → refused (with_cap s k r) ≡ refused r
refused_cap s k (Ok t) = refl
refused_cap s k (Err e) = refl

refused_most : (s : Settings) (k : Kind) (r : Result ℕ Refusal) → refused (with_most s k r) ≡ refused r
refused_most s k (Ok t) = refl
refused_most s k (Err e) = refl

-- the two faults of values, looked for in their order
abbrev value_fault : ℕ → Bool → Line → Option Refusal
value_fault n p x = cond (outside n (Some x)) (Some OutOfRange) (cond (unpaired p (Some x)) (Some BadPair) None)

refused_regions : (n : ℕ) → refused (regions_with n) ≡ cond (not (can_have n)) (Some OutOfRange) None
refused_regions n = by (can_have n)
  where
    by : (b : Bool) → refused (elim (cond {A = Result touch.Regions Refusal} b (Ok (record { count_of = n; rows = bare })) (Err OutOfRange)) as (λ _. Result Topic Refusal) [ Ok m ↦ Ok (regions m) | Err k ↦ Err k ])
        ≡ cond (not b) (Some OutOfRange) None
    by true = refl
    by false = refl

refused_polygon : (n : ℕ) → refused (polygon_with n) ≡ cond (not (leb 3 n && leb n 24)) (Some OutOfRange) None
refused_polygon n = by (leb 3 n && leb n 24)
  where
    by : (b : Bool) → refused (cond b (Ok (polygon n)) (Err OutOfRange)) ≡ cond (not b) (Some OutOfRange) None
    by true = refl
    by false = refl

refused_count : (c : ℕ) → refused (counted c) ≡ cond (not (leb c most_number)) (Some OutOfRange) None
refused_count c = by (leb c most_number)
  where
    by : (b : Bool) → refused (cond b (Ok c) (Err OutOfRange)) ≡ cond (not b) (Some OutOfRange) None
    by true = refl
    by false = refl

pair_fault_of : (t : Option Topic) (a b : ℕ) → refused (pair_after t a b) ≡ value_fault (topic_size t) (topic_polygon t) (Pair a b)
pair_fault_of None a b =
    sym (cond-true (leb 0 a || leb 0 b) (Some OutOfRange) (cond (eqb a b) (Some BadPair) None) (or_left (leb 0 a) (leb 0 b) (le-leb 0 a (omega arith))))
pair_fault_of (Some (polygon n)) a b = by (leb n a || leb n b)
  where
    by : (c : Bool) → Some (cond c OutOfRange BadPair) ≡ cond c (Some OutOfRange) (Some BadPair)
    by true = refl
    by false = refl
pair_fault_of (Some (regions m)) a b = go (pair_fault m.count_of a b) refl
  where
    go : (o : Option Refusal) → pair_fault m.count_of a b ≡ o
        → refused (pair_after (Some (regions m)) a b) ≡ pair_fault m.count_of a b
    go None f = ap refused (pair_set m a b f) ∙ sym f
    go (Some k) f = ap refused (pair_unset m a b k f) ∙ sym f

value_fault_of : (s : Settings) (x : Line) → refused (set_by s x) ≡ value_fault (topic_size s.topic) (topic_polygon s.topic) x
value_fault_of s (Regions n) = refused_topic s kind.Regions (regions_with n) ∙ refused_regions n
value_fault_of s (Polygon n) = refused_topic s kind.Polygon (polygon_with n) ∙ refused_polygon n
value_fault_of s (Pair a b) = refused_topic s kind.Pair (pair_after s.topic a b) ∙ pair_fault_of s.topic a b
value_fault_of s (Cap c) = refused_cap s kind.Cap (counted c) ∙ refused_count c
value_fault_of s (Stop m) = refused_most s kind.Stop (counted m) ∙ refused_count m

line_fault_of : (s : Settings) (x : Line) → refused (after_line s x)
    ≡ cond (not (follows s.last (kind_of_line x))) (Some LineOrder) (value_fault (topic_size s.topic) (topic_polygon s.topic) x)
line_fault_of s x = go (follows s.last (kind_of_line x)) refl
  where
    by : Bool → Option Refusal
    by b = cond (not b) (Some LineOrder) (value_fault (topic_size s.topic) (topic_polygon s.topic) x)

    go : (b : Bool) → follows s.last (kind_of_line x) ≡ b → refused (after_line s x) ≡ by (follows s.last (kind_of_line x))
    go true f = ap refused (in_place s x f) ∙ value_fault_of s x ∙ sym (ap by f)
    go false f = ap refused (out_of_place s x f) ∙ sym (ap by f)

kind_text : (x : Line) → kind_at (text_of x) ≡ Some (kind_of_line x)
kind_text (Regions n) = refl
kind_text (Polygon n) = refl
kind_text (Pair a b) = refl
kind_text (Cap c) = refl
kind_text (Stop m) = refl

kind_good : (l : List ℕ) (x : Line) → line_of l ≡ Ok x → kind_at l ≡ Some (kind_of_line x)
kind_good l x e = ap kind_at ((spells l x).0 e).1 ∙ kind_text x

bytes_fault_of : (s : Settings) (l : List ℕ) → refused (settled s l)
    ≡ judged s.last (topic_size s.topic) (topic_polygon s.topic) (kind_at l) (value_of l)
bytes_fault_of s l = go (stopped s.last) refl (line_of l) refl
  where
    n : ℕ
    n = topic_size s.topic

    p : Bool
    p = topic_polygon s.topic

    -- behind a line that is no full stop
    open' : Option Kind → Option Line → Option Refusal
    open' k v =
        cond (not (is_some k)) (Some FirstByte)
        (cond (not (is_some v)) (Some LineForm)
        (cond (misplaced s.last k) (Some LineOrder) (cond (outside n v) (Some OutOfRange) (cond (unpaired p v) (Some BadPair) None))))

    by : Bool → Option Refusal
    by t = cond t (Some LineOrder) (open' (kind_at l) (value_of l))

    bad : (k : Refusal) → line_of l ≡ Err k
        → ((k ≡ FirstByte) × (kind_at l ≡ None)) ⊎ ((k ≡ LineForm) × (is_some (kind_at l) ≡ true))
        → Some k ≡ open' (kind_at l) (value_of l)
    bad k e (inl w) = ap Some w.0 ∙ sym (ap (λ o. open' o (value_of l)) w.1)
    bad k e (inr w) =
        ap Some w.0
        ∙ sym (cond-false (not (is_some (kind_at l))) _ _ (ap not w.1) ∙ cond-true (not (is_some (value_of l))) _ _ (ap (λ r. not (is_some (result_ok r))) e))

    go : (t : Bool) → stopped s.last ≡ t → (v : Result Line Refusal) → line_of l ≡ v
        → refused (settled s l) ≡ by (stopped s.last)
    go true f v g = ap refused (bytes_stopped s l f) ∙ sym (ap by f)
    go false f (Err k) g = ap refused (bytes_bad s l k f g) ∙ bad k g (bad_line l k g) ∙ sym (ap by f)
    go false f (Ok x) g =
        ap refused (bytes_good s l x f g) ∙ line_fault_of s x
        ∙ ap (λ r. open' (Some (kind_of_line x)) (result_ok r)) (sym g) ∙ ap (λ o. open' o (value_of l)) (sym (kind_good l x g)) ∙ sym (ap by f)

linked_fault : (before : List (List ℕ)) (s : Settings) (l : List ℕ) → Linked before s
    → fault_at before (whole l) ≡ refused (settled s l)
linked_fault before s l k =
    whole_fault before l
    ∙ ap (λ j. judged j (size_in (line_one before)) (polygon_in (line_one before)) (kind_at l) (value_of l)) (sym k.last_is)
    ∙ ap (λ n. judged s.last n (polygon_in (line_one before)) (kind_at l) (value_of l)) (sym k.size_is)
    ∙ ap (λ p. judged s.last (topic_size s.topic) p (kind_at l) (value_of l)) (sym k.polygon_is)
    ∙ sym (bytes_fault_of s l)

-- ---- the settings stay linked to the lines

topic_set : (s t : Settings) (k : Kind) (r : Result Topic Refusal) → with_topic s k r ≡ Ok t
    → (u : Topic) × (r ≡ Ok u) × (record { last = Some k; topic = Some u; cap = s.cap; most = s.most } ≡ t)
topic_set s t k (Ok u) e = (u, refl, same_ok _ t e)
topic_set s t k (Err f) e = clash t f e

cap_set : (s t : Settings) (k : Kind) (r : Result ℕ Refusal) → with_cap s k r ≡ Ok t
    → (c : ℕ) × (record { last = Some k; topic = s.topic; cap = Some c; most = s.most } ≡ t)
cap_set s t k (Ok c) e = (c, same_ok _ t e)
cap_set s t k (Err f) e = clash t f e

most_set : (s t : Settings) (k : Kind) (r : Result ℕ Refusal) → with_most s k r ≡ Ok t
    → (m : ℕ) × (record { last = Some k; topic = s.topic; cap = s.cap; most = m } ≡ t)
most_set s t k (Ok m) e = (m, same_ok _ t e)
most_set s t k (Err f) e = clash t f e

regions_is : (n : ℕ) (u : Topic) → regions_with n ≡ Ok u → (size_of u ≡ n) × (topic_polygon (Some u) ≡ false)
regions_is n u e = go (begun n) refl
  where
    by : Result touch.Regions Refusal → Result Topic Refusal
    by r = elim r [ Ok m ↦ Ok (regions m) | Err k ↦ Err k ]

    go : (r : Result touch.Regions Refusal) → begun n ≡ r → (size_of u ≡ n) × (topic_polygon (Some u) ≡ false)
    go (Err k) f = clash u k (sym (ap by f) ∙ e)
    go (Ok m) f =
        let same : regions m ≡ u = same_ok (regions m) u (sym (ap by f) ∙ e) in (
          ap size_of (sym same) ∙ ap (λ (v : touch.Regions). v.count_of) (begun_is n m (sym f)).2,
          ap (λ v. topic_polygon (Some v)) (sym same),
        )

polygon_is_set : (n : ℕ) (u : Topic) → polygon_with n ≡ Ok u → (size_of u ≡ n) × (topic_polygon (Some u) ≡ true)
polygon_is_set n u e = by (leb 3 n && leb n 24) e
  where
    by : (b : Bool) → cond {A = Result Topic Refusal} b (Ok (polygon n)) (Err OutOfRange) ≡ Ok u → (size_of u ≡ n) × (topic_polygon (Some u) ≡ true)
    by true f = let same = same_ok (polygon n) u f in (ap size_of (sym same), ap (λ v. topic_polygon (Some v)) (sym same))
    by false f = clash u OutOfRange f

pair_is : (o : Option Topic) (a b : ℕ) (u : Topic) → pair_after o a b ≡ Ok u
    → (size_of u ≡ topic_size o) × (topic_polygon (Some u) ≡ topic_polygon o)
pair_is None a b u e = clash u OutOfRange e
pair_is (Some (polygon n)) a b u e = clash u _ e
pair_is (Some (regions m)) a b u e = go (pair_fault m.count_of a b) refl
  where
    go : (o : Option Refusal) → pair_fault m.count_of a b ≡ o → (size_of u ≡ m.count_of) × (topic_polygon (Some u) ≡ false)
    go (Some k) f = clash u k (sym (pair_unset m a b k f) ∙ e)
    go None f =
        let same = same_ok _ u (sym (pair_set m a b f) ∙ e) in
        (ap size_of (sym same), ap (λ v. topic_polygon (Some v)) (sym same))

-- what a line leaves set: its kind, and of the subject the number and the letter
abbrev Subject-after : Option Topic → Option Topic → Line → Type 0
Subject-after o u (Regions n) = (topic_size u ≡ n) × (topic_polygon u ≡ false) × (is_some u ≡ true)
Subject-after o u (Polygon n) = (topic_size u ≡ n) × (topic_polygon u ≡ true) × (is_some u ≡ true)
Subject-after o u (Pair a b) = (topic_size u ≡ topic_size o) × (topic_polygon u ≡ topic_polygon o) × (is_some u ≡ true)
Subject-after o u (Cap c) = u ≡ o
Subject-after o u (Stop m) = u ≡ o

set_facts : (s t : Settings) (x : Line) → set_by s x ≡ Ok t → (t.last ≡ Some (kind_of_line x)) × Subject-after s.topic t.topic x
set_facts s t (Regions n) e =
    let f = topic_set s t kind.Regions (regions_with n) e in
    let g = regions_is n f.0 f.1 in (
      ap (λ (v : Settings). v.last) (sym f.2),
      subst (λ (v : Settings). Subject-after s.topic v.topic (Regions n)) f.2 (g.0, g.1, refl),
    )
set_facts s t (Polygon n) e =
    let f = topic_set s t kind.Polygon (polygon_with n) e in
    let g = polygon_is_set n f.0 f.1 in (
      ap (λ (v : Settings). v.last) (sym f.2),
      subst (λ (v : Settings). Subject-after s.topic v.topic (Polygon n)) f.2 (g.0, g.1, refl),
    )
set_facts s t (Pair a b) e =
    let f = topic_set s t kind.Pair (pair_after s.topic a b) e in
    let g = pair_is s.topic a b f.0 f.1 in (
      ap (λ (v : Settings). v.last) (sym f.2),
      subst (λ (v : Settings). Subject-after s.topic v.topic (Pair a b)) f.2 (g.0, g.1, refl),
    )
set_facts s t (Cap c) e =
    let f = cap_set s t kind.Cap (counted c) e in
    (ap (λ (v : Settings). v.last) (sym f.1), ap (λ (v : Settings). v.topic) (sym f.1))
set_facts s t (Stop m) e =
    let f = most_set s t kind.Stop (counted m) e in
    (ap (λ (v : Settings). v.last) (sym f.1), ap (λ (v : Settings). v.topic) (sym f.1))

last_push : (before : List (List ℕ)) (l : List ℕ) → last_kind (before ++ (l ∷ [])) ≡ kind_at l
unfolding last_kind
last_push [] l = refl
last_push (b ∷ []) l = refl
last_push (b ∷ (c ∷ before)) l = last_push (c ∷ before) l

-- behind other lines the subject does not change
abbrev Kept : Option Topic → Option Topic → Type 0
Kept o u = (topic_size u ≡ topic_size o) × (topic_polygon u ≡ topic_polygon o) × (is_some o ≡ true → is_some u ≡ true)

subject_kept : (j : Option Kind) (o u : Option Topic) (x : Line) → is_some j ≡ true → follows j (kind_of_line x) ≡ true
    → Subject-after o u x → Kept o u
subject_kept None o u x h f g = no_true h
subject_kept (Some j) o u (Regions n) h f g = no_true (sym (never_again j).0 ∙ f)
subject_kept (Some j) o u (Polygon n) h f g = no_true (sym (never_again j).1 ∙ f)
subject_kept (Some j) o u (Pair a b) h f g = (g.0, g.1, λ _. g.2)
subject_kept (Some j) o u (Cap c) h f g = (ap topic_size g, ap topic_polygon g, λ e. ap is_some g ∙ e)
subject_kept (Some j) o u (Stop m) h f g = (ap topic_size g, ap topic_polygon g, λ e. ap is_some g ∙ e)

-- line 1 gives the subject
subject_given : (o u : Option Topic) (x : Line) → follows None (kind_of_line x) ≡ true → Subject-after o u x
    → (topic_size u ≡ size_in (Some x)) × (topic_polygon u ≡ polygon_in (Some x)) × (is_some u ≡ true)
subject_given o u (Regions n) f g = g
subject_given o u (Polygon n) f g = g
subject_given o u (Pair a b) f g = no_true f
subject_given o u (Cap c) f g = no_true f
subject_given o u (Stop m) f g = no_true f

-- what an accepted line was
abbrev Taken : Settings → Settings → List ℕ → Type 0
Taken s t l =
    (x : Line) × (line_of l ≡ Ok x) × (follows s.last (kind_of_line x) ≡ true) × (set_by s x ≡ Ok t)

taken : (s t : Settings) (l : List ℕ) → settled s l ≡ Ok t → Taken s t l
taken s t l e = go (stopped s.last) refl (line_of l) refl
  where
    place : (x : Line) → line_of l ≡ Ok x → after_line s x ≡ Ok t → (b : Bool) → follows s.last (kind_of_line x) ≡ b → Taken s t l
    place x v a true f = (x, v, f, sym (in_place s x f) ∙ a)
    place x v a false f = clash t LineOrder (sym (out_of_place s x f) ∙ a)

    go : (b : Bool) → stopped s.last ≡ b → (v : Result Line Refusal) → line_of l ≡ v → Taken s t l
    go true f v g = clash t LineOrder (sym (bytes_stopped s l f) ∙ e)
    go false f (Err k) g = clash t k (sym (bytes_bad s l k f g) ∙ e)
    go false f (Ok x) g = place x g (sym (bytes_good s l x f g) ∙ e) (follows s.last (kind_of_line x)) refl

linked_next : (before : List (List ℕ)) (s t : Settings) (l : List ℕ) → Linked before s → settled s l ≡ Ok t
    → Linked (before ++ (l ∷ [])) t
unfolding last_kind
linked_next before s t l k e = go before k (taken s t l e)
  where
    ends : (before : List (List ℕ)) (x : Line) → line_of l ≡ Ok x → t.last ≡ Some (kind_of_line x) → t.last ≡ last_kind (before ++ (l ∷ []))
    ends before x v f = f ∙ sym (kind_good l x v) ∙ sym (last_push before l)

    go : (before : List (List ℕ)) → Linked before s → Taken s t l → Linked (before ++ (l ∷ [])) t
    go [] k (x, v, f, set) =
        let z = set_facts s t x set in
        let first : follows None (kind_of_line x) ≡ true = ap (λ j. follows j (kind_of_line x)) (sym k.last_is) ∙ f in
        let g = subject_given s.topic t.topic x first z.1 in
        record {
          last_is = ends [] x v z.0;
          size_is = g.0 ∙ ap (λ r. size_in (result_ok r)) (sym v);
          polygon_is = g.1 ∙ ap (λ r. polygon_in (result_ok r)) (sym v);
          started = ap is_some z.0;
          subject = g.2 ∙ sym (ap is_some z.0);
        }
    go (b ∷ before) k (x, v, f, set) =
        let z = set_facts s t x set in
        let g = subject_kept s.last s.topic t.topic x k.started f z.1 in
        record {
          last_is = ends (b ∷ before) x v z.0;
          size_is = g.0 ∙ k.size_is;
          polygon_is = g.1 ∙ k.polygon_is;
          started = ap is_some z.0;
          subject = g.2 (k.subject ∙ k.started) ∙ sym (ap is_some z.0);
        }

linked_unset : Linked [] unset
unfolding last_kind
linked_unset = record { last_is = refl; size_is = refl; polygon_is = refl; started = refl; subject = refl }

-- ---- where no finished line is left

end_fault : (before : List (List ℕ)) (s : Settings) (r : List ℕ) → Linked before s → fault_at before (broken r) ≡ refused (at_end s r)
unfolding fault_at
end_fault before s [] k = go (stopped s.last) refl
  where
    by : Bool → Option Refusal
    by b = cond (not b) (Some SheetShort) None

    end : Bool → Result Wanted Refusal
    end b = elim b [ true ↦ wanted_by s s.topic | false ↦ Err SheetShort ]

    some-last : (j : Option Kind) → stopped j ≡ true → is_some j ≡ true
    some-last None f = no_true f
    some-last (Some j) f = refl

    planned : (o : Option Topic) → is_some o ≡ true → refused (wanted_by s o) ≡ None
    planned None f = no_true f
    planned (Some t) f = refl

    go : (b : Bool) → stopped s.last ≡ b → by (stopped (last_kind before)) ≡ refused (end (stopped s.last))
    go true f =
        ap (λ j. by (stopped j)) (sym k.last_is) ∙ ap by f
        ∙ sym (ap (λ b. refused (end b)) f ∙ planned s.topic (k.subject ∙ some-last s.last f))
    go false f = ap (λ j. by (stopped j)) (sym k.last_is) ∙ ap by f ∙ sym (ap (λ b. refused (end b)) f)
end_fault before s (b ∷ r) k = go (stopped s.last) refl
  where
    by : Bool → Option Refusal
    by t = cond t (Some LineOrder) (cond (not t) (Some SheetShort) None)

    end : Bool → Result Wanted Refusal
    end t = elim t [ true ↦ Err LineOrder | false ↦ Err SheetShort ]

    go : (t : Bool) → stopped s.last ≡ t → by (stopped (last_kind before)) ≡ refused (end (stopped s.last))
    go true f = ap (λ j. by (stopped j)) (sym k.last_is) ∙ ap by f ∙ sym (ap (λ t. refused (end t)) f)
    go false f = ap (λ j. by (stopped j)) (sym k.last_is) ∙ ap by f ∙ sym (ap (λ t. refused (end t)) f)

-- ---- line after line

-- the fault of line i of what is left
abbrev fault_of : List (List ℕ) → List (List ℕ) → List ℕ → ℕ → Option Refusal
fault_of before ls r i = fault_at (before ++ take i ls) (here_at ls r i)

fault_zero : (before ls : List (List ℕ)) (r : List ℕ) (h : Here) → here_at ls r 0 ≡ h → fault_of before ls r 0 ≡ fault_at before h
fault_zero before ls r h e =
    ap (λ xs. fault_at xs (here_at ls r 0)) (append-nil before) ∙ ap (fault_at before) e

fault_suc : (before ls : List (List ℕ)) (l r : List ℕ) (i : ℕ) → fault_of (before ++ (l ∷ [])) ls r i ≡ fault_of before (l ∷ ls) r (suc i)
unfolding here_at
fault_suc before ls l r i = ap (λ xs. fault_at xs (here_at ls r i)) (append_assoc before (l ∷ []) (take i ls))

abbrev Located : List (List ℕ) → List (List ℕ) → List ℕ → Fault → Type 0
Located before ls r f =
    (j : ℕ) × (f.line ≡ suc (length before + j)) × (j ≤ length ls) × (fault_of before ls r j ≡ Some f.refusal)
    × ((i : ℕ) → i < j → fault_of before ls r i ≡ None)

refused_ok : {X : Type 0} (a : Result X Refusal) (x : X) → a ≡ Ok x → refused a ≡ None
refused_ok a x e = ap refused e

refused_err : {X : Type 0} (a : Result X Refusal) (k : Refusal) → a ≡ Err k → refused a ≡ Some k
refused_err a k e = ap refused e

here_now : (before ls : List (List ℕ)) (r : List ℕ) (n : ℕ) (k : Refusal) (f : Fault) → n ≡ suc (length before)
    → at_line k n ≡ f → fault_of before ls r 0 ≡ Some k → Located before ls r f
here_now before ls r n k f e g h = (
  0,
  (let same = ap (λ (x : Fault). x.line) g in omega arith),
  omega arith,
  h ∙ ap (λ (x : Fault). Some x.refusal) g,
  λ i l. absurd (omega arith),
)

located : (before ls : List (List ℕ)) (r : List ℕ) (n : ℕ) (s : Settings) (f : Fault) → Linked before s → n ≡ suc (length before)
    → read_from n s ls r ≡ Err f → Located before ls r f
unfolding read_from here_at
located before [] r n s f k e h = go (at_end s r) refl h
  where
    go : (a : Result Wanted Refusal) → at_end s r ≡ a → faulted a n ≡ Err f → Located before [] r f
    go (Ok w) g h' = clash w f (sym h')
    go (Err c) g h' =
        let same : at_line c n ≡ f = cc in
        here_now before [] r n c f e same (fault_zero before [] r (broken r) refl ∙ end_fault before s r k ∙ ap refused g)
located before (l ∷ ls) r n s f k e h =
    go (settled s l) refl
    (λ t a. located (before ++ (l ∷ [])) ls r (n + 1) t f (linked_next before s t l k a)
    (let long = length-append before (l ∷ []) in omega arith))
  where
    later : (t : Settings) → settled s l ≡ Ok t → Located (before ++ (l ∷ [])) ls r f → Located before (l ∷ ls) r f
    later t a (j, line, within, here, none) = (
      suc j,
      (let long = length-append before (l ∷ []) in omega arith),
      omega arith,
      sym (fault_suc before ls l r j) ∙ here,
      first,
    )
      where
        first : (i : ℕ) → i < suc j → fault_of before (l ∷ ls) r i ≡ None
        first zero lt = fault_zero before (l ∷ ls) r (whole l) refl ∙ linked_fault before s l k ∙ refused_ok (settled s l) t a
        first (suc i) lt = sym (fault_suc before ls l r i) ∙ none i (omega arith)

    go : (a : Result Settings Refusal) → settled s l ≡ a
        → ((t : Settings) → settled s l ≡ Ok t → read_from (n + 1) t ls r ≡ Err f → Located (before ++ (l ∷ [])) ls r f)
        → Located before (l ∷ ls) r f
    go (Ok t) g rest = later t g (rest t g (sym (read_on n s l ls r t g) ∙ h))
    go (Err c) g rest =
        let same : ◌≡◌ {A = Result Wanted Fault} (Err (at_line c n)) (Err f) = sym (read_fault n s l ls r c g) ∙ h in
        let is : at_line c n ≡ f = cc in
        here_now before (l ∷ ls) r n c f e is
        (fault_zero before (l ∷ ls) r (whole l) refl ∙ linked_fault before s l k ∙ refused_err (settled s l) c g)

-- an accepted sheet has no fault at any line
unfaulted : (before ls : List (List ℕ)) (r : List ℕ) (n : ℕ) (s : Settings) (w : Wanted) → Linked before s
    → read_from n s ls r ≡ Ok w → (i : ℕ) → i ≤ length ls → fault_of before ls r i ≡ None
unfolding read_from here_at
unfaulted before [] r n s w k h i le = go (at_end s r) refl h
  where
    zero_is : i ≡ 0
    zero_is = omega arith

    go : (a : Result Wanted Refusal) → at_end s r ≡ a → faulted a n ≡ Ok w → fault_of before [] r i ≡ None
    go (Ok v) g h' =
        ap (λ j. fault_of before [] r j) zero_is ∙ fault_zero before [] r (broken r) refl ∙ end_fault before s r k ∙ ap refused g
    go (Err c) g h' = clash w _ h'
unfaulted before (l ∷ ls) r n s w k h i le =
    go (settled s l) refl (λ t a. unfaulted (before ++ (l ∷ [])) ls r (n + 1) t w (linked_next before s t l k a)) i le
  where
    at : (t : Settings) → settled s l ≡ Ok t → ((i : ℕ) → i ≤ length ls → fault_of (before ++ (l ∷ [])) ls r i ≡ None)
        → (i : ℕ) → i ≤ suc (length ls) → fault_of before (l ∷ ls) r i ≡ None
    at t a rest zero le = fault_zero before (l ∷ ls) r (whole l) refl ∙ linked_fault before s l k ∙ refused_ok (settled s l) t a
    at t a rest (suc i) le = sym (fault_suc before ls l r i) ∙ rest i (omega arith)

    go : (a : Result Settings Refusal) → settled s l ≡ a
        → ((t : Settings) → settled s l ≡ Ok t → read_from (n + 1) t ls r ≡ Ok w
        → (i : ℕ) → i ≤ length ls → fault_of (before ++ (l ∷ [])) ls r i ≡ None)
        → (i : ℕ) → i ≤ suc (length ls) → fault_of before (l ∷ ls) r i ≡ None
    go (Ok t) g rest = at t g (rest t g (sym (read_on n s l ls r t g) ∙ h))
    go (Err c) g rest = clash w _ (sym (read_fault n s l ls r c g) ∙ h)

-- ---- the whole sheet

first_fault : (bs : List ℕ) (f : Fault) → Located [] (cut bs).lines (cut bs).rest f → FirstFault bs f
first_fault bs f (j, line, within, here, none) =
    let is : j ≡ f.line - 1 = omega arith in
    record {
      from_one = omega arith;
      within = omega arith;
      here = subst (λ i. fault_of [] (cut bs).lines (cut bs).rest i ≡ Some f.refusal) is here;
      none_before = λ i l. none i (omega arith);
    }

short_one : (bs : List ℕ) (f : Fault) → length bs ≤ most_bytes → read_all bs ≡ Err f → FirstFault bs f
short_one bs f h e =
    first_fault bs f
    (located [] (cut bs).lines (cut bs).rest 1 unset f linked_unset refl (sym (read_short bs h) ∙ e))

long_one : (bs : List ℕ) → (read_all bs ≡ Err (at_line SheetLong 0)) ↔ (most_bytes < length bs)
long_one bs = (λ e. go e (cases_lt most_bytes (length bs)), λ h. read_long bs h)
  where
    go : read_all bs ≡ Err (at_line SheetLong 0) → (most_bytes < length bs) ⊎ (length bs ≤ most_bytes) → most_bytes < length bs
    go e (inl h) = h
    go e (inr h) = let f = short_one bs (at_line SheetLong 0) h e in absurd (let one = f.from_one in omega arith)

values_are : (l : List ℕ) (x : Line) → (value_of l ≡ Some x) ↔ (Short x × (l ≡ text_of x))
values_are l x = (λ e. (spells l x).0 (ok (line_of l) e), λ h. ap result_ok ((spells l x).1 h))
  where
    ok : (r : Result Line Refusal) → result_ok r ≡ Some x → r ≡ Ok x
    ok (Ok y) e = cc
    ok (Err k) e = cc

clean_all : (bs : List ℕ) (w : Wanted) → read_all bs ≡ Ok w → (i : ℕ) → i ≤ length (cut bs).lines
    → fault_at (take i (cut bs).lines) (here_at (cut bs).lines (cut bs).rest i) ≡ None
clean_all bs w e = go (cases_lt most_bytes (length bs))
  where
    go : (most_bytes < length bs) ⊎ (length bs ≤ most_bytes) → (i : ℕ) → i ≤ length (cut bs).lines
        → fault_at (take i (cut bs).lines) (here_at (cut bs).lines (cut bs).rest i) ≡ None
    go (inl h) = clash w _ (sym (read_long bs h) ∙ e)
    go (inr h) = unfaulted [] (cut bs).lines (cut bs).rest 1 unset w linked_unset (sym (read_short bs h) ∙ e)

pub refuses : (bs : List ℕ) → Refusing bs (read_all bs)
refuses bs = record { long = long_one bs; first = λ f h e. short_one bs f h e; clean = λ w e. clean_all bs w e; values = values_are }
