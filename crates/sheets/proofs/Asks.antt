-- Every sheet that is accepted is the writing of what it is accepted as.
use Rattle.std.proofs.Common.{◌≡◌, ℕ, ◌+◌, ◌<◌, ◌≤◌, Bool, true, false, cond, ◌&&◌, eqb, leb, ◌⊎◌, List, [], ◌∷◌, ◌++◌, map, length, IfSome, Some, None, Ok, Err, Option, Result, unwrap_or, sym, refl, ap, ◌∙◌, subst, inl, inr}
use Rattle.std.specs.List.{flat_map, AllByRecursion}
use Rattle.std.proofs.lemmas.List.{append-nil}
use Rattle.std.proofs.lemmas.Bool.{and_parts, leb-true, eqb-true, cond-true, cond-false, cases_lt}
use Rattle.refusals.specs.declared.Refusal.{Refusal}
use Rattle.refusals.specs.declared.Refusal.TheVariants.{LineOrder, OutOfRange, SheetShort}
use Rattle.items.specs.Lines.{line_of, kind_of_line}
use Rattle.items.specs.Texts.{text_of}
use Rattle.items.specs.declared.line.Kind.{Kind}
use Rattle.items.specs.declared.line.Kind.TheVariants as kind
use Rattle.items.specs.declared.line.Line.{Line}
use Rattle.items.specs.declared.line.Line.TheVariants.{Regions, Polygon, Pair, Cap, Stop}
use Rattle.items.proofs.Texts.{spells}
use Rattle.maps.specs.Touch as touch
use Rattle.maps.specs.Touch.{bare, begun, with_pair, pair_fault, after_pairs, Touching}
use Rattle.maps.proofs.Results.{same_ok, clash}
use Rattle.maps.proofs.Tables.{begun_is, pair_good, after_good, meant}
use Rattle.sheets.specs.Cut.{Cut, cut, in_front}
use Rattle.sheets.specs.Laws.{Accepting, Asked, Meant}
use Rattle.sheets.specs.Order.{follows, stopped}
use Rattle.sheets.specs.Reading.{Wanted, most_bytes, at_end, wanted_by, faulted, read_from, read_all}
use Rattle.sheets.specs.Settings.{Settings, Topic, regions, polygon, unset, height_of, regions_with, polygon_with, counted, with_topic, with_cap, with_most, set_by, after_line, most_number}
use Rattle.sheets.specs.Written.{Content, Subject, of_regions, of_polygon, Good, GoodPair, GoodSubject, sheet_of, pair_line, cap_lines, lines_of, table_after, topic_for, wanted_for}
use Rattle.sheets.proofs.Accepts.{good_pair, pair_set, pair_unset, read_short, read_long, reads_written}
use Rattle.sheets.proofs.Sequence.{InBody, body, in_body, never_again, no_true}
use Rattle.sheets.proofs.Steps.{in_place, out_of_place, bytes_stopped, bytes_bad, bytes_good, read_on, read_fault}

-- ---- the lines of a sheet, joined, are the sheet

abbrev whole : List (List ℕ) → List ℕ → List ℕ
whole ls r = flat_map (λ l. l ++ (10 ∷ [])) ls ++ r

whole_front : (b : ℕ) (ls : List (List ℕ)) (r : List ℕ) → whole (in_front b ls r).lines (in_front b ls r).rest ≡ b ∷ whole ls r
whole_front b [] r = refl
whole_front b (l ∷ ls) r = refl

uncut : (bs : List ℕ) → whole (cut bs).lines (cut bs).rest ≡ bs
unfolding cut
uncut [] = refl
uncut (b ∷ bs) = go (eqb b 10) refl (uncut bs)
  where
    by : Bool → Cut
    by t =
        elim t [
          | true ↦ record { lines = [] ∷ (cut bs).lines; rest = (cut bs).rest }
          | false ↦ in_front b (cut bs).lines (cut bs).rest
        ]

    go : (t : Bool) → eqb b 10 ≡ t → whole (cut bs).lines (cut bs).rest ≡ bs → whole (by (eqb b 10)).lines (by (eqb b 10)).rest ≡ b ∷ bs
    go true e ih =
        ap (λ t. whole (by t).lines (by t).rest) e ∙ ap (λ c. c ∷ whole (cut bs).lines (cut bs).rest) (sym (eqb-true b 10 e))
        ∙ ap (λ ys. b ∷ ys) ih
    go false e ih =
        ap (λ t. whole (by t).lines (by t).rest) e ∙ whole_front b (cut bs).lines (cut bs).rest ∙ ap (λ ys. b ∷ ys) ih

joined_texts : (xs : List Line) → flat_map (λ l. l ++ (10 ∷ [])) (map text_of xs) ≡ sheet_of xs
unfolding sheet_of
joined_texts [] = refl
joined_texts (x ∷ xs) = ap (λ ys. (text_of x ++ (10 ∷ [])) ++ ys) (joined_texts xs)

-- ---- the values of the lines, one after the other, up to the plan

abbrev Run : Settings → List Line → Wanted → Type 0
Run s [] w = at_end s [] ≡ Ok w
Run s (x ∷ xs) w = (t : Settings) × (stopped s.last ≡ false) × (after_line s x ≡ Ok t) × Run t xs w

abbrev Parsed : Settings → List (List ℕ) → List ℕ → Wanted → Type 0
Parsed s ls r w = (xs : List Line) × (ls ≡ map text_of xs) × (r ≡ []) × Run s xs w

end_parsed : (n : ℕ) (s : Settings) (r : List ℕ) (w : Wanted) → faulted (at_end s r) n ≡ Ok w → Parsed s [] r w
end_parsed n s [] w e = ([], refl, refl, ok (at_end s []) e)
  where
    ok : (a : Result Wanted Refusal) → faulted a n ≡ Ok w → a ≡ Ok w
    ok (Ok x) f = ap Ok (same_ok x w f)
    ok (Err k) f = clash w _ f
end_parsed n s (b ∷ r) w e = go (stopped s.last) refl
  where
    by : Bool → Result Wanted Refusal
    by t = elim t [ true ↦ Err LineOrder | false ↦ Err SheetShort ]

    go : (t : Bool) → stopped s.last ≡ t → Parsed s [] (b ∷ r) w
    go true f = clash w _ (sym (ap (λ t. faulted (by t) n) f) ∙ e)
    go false f = clash w _ (sym (ap (λ t. faulted (by t) n) f) ∙ e)

parsed : (n : ℕ) (s : Settings) (ls : List (List ℕ)) (r : List ℕ) (w : Wanted) → read_from n s ls r ≡ Ok w → Parsed s ls r w
unfolding read_from
parsed n s [] r w e = end_parsed n s r w e
parsed n s (l ∷ ls) r w e =
    go (stopped s.last) refl (line_of l) refl (λ t h. parsed (n + 1) t ls r w h)
  where
    on : (x : Line) (t : Settings) → stopped s.last ≡ false → line_of l ≡ Ok x → after_line s x ≡ Ok t
        → (read_from (n + 1) t ls r ≡ Ok w → Parsed t ls r w) → Parsed s (l ∷ ls) r w
    on x t going value set rest =
        let p = rest (sym (read_on n s l ls r t (bytes_good s l x going value ∙ set)) ∙ e) in
        let q = (spells l x).0 value in
        (x ∷ p.0, ap (λ y. y ∷ ls) q.1 ∙ ap (λ ys. text_of x ∷ ys) p.1, p.2, (t, going, set, p.3))

    set_to : (x : Line) (a : Result Settings Refusal) → stopped s.last ≡ false → line_of l ≡ Ok x → after_line s x ≡ a
        → ((t : Settings) → read_from (n + 1) t ls r ≡ Ok w → Parsed t ls r w) → Parsed s (l ∷ ls) r w
    set_to x (Ok t) going value f rest = on x t going value f (rest t)
    set_to x (Err k) going value f rest = clash w _ (sym (read_fault n s l ls r k (bytes_good s l x going value ∙ f)) ∙ e)

    go : (t : Bool) → stopped s.last ≡ t → (v : Result Line Refusal) → line_of l ≡ v
        → ((t : Settings) → read_from (n + 1) t ls r ≡ Ok w → Parsed t ls r w) → Parsed s (l ∷ ls) r w
    go true f v g rest = clash w _ (sym (read_fault n s l ls r LineOrder (bytes_stopped s l f)) ∙ e)
    go false f (Err k) g rest = clash w _ (sym (read_fault n s l ls r k (bytes_bad s l k f g)) ∙ e)
    go false f (Ok x) g rest = set_to x (after_line s x) f g refl rest

-- ---- what the values of accepted lines are

placed : (s t : Settings) (x : Line) → after_line s x ≡ Ok t → (follows s.last (kind_of_line x) ≡ true) × (set_by s x ≡ Ok t)
placed s t x e = go (follows s.last (kind_of_line x)) refl
  where
    go : (b : Bool) → follows s.last (kind_of_line x) ≡ b → (follows s.last (kind_of_line x) ≡ true) × (set_by s x ≡ Ok t)
    go true f = (f, sym (in_place s x f) ∙ e)
    go false f = clash t LineOrder (sym (out_of_place s x f) ∙ e)

count_of : (c d : ℕ) → counted c ≡ Ok d → (c ≤ most_number) × (c ≡ d)
count_of c d e = go (leb c most_number) refl
  where
    go : (b : Bool) → leb c most_number ≡ b → (c ≤ most_number) × (c ≡ d)
    go true f = (leb-true c most_number f, same_ok c d (sym (cond-true (leb c most_number) (Ok c) (Err OutOfRange) f) ∙ e))
    go false f = clash d OutOfRange (sym (cond-false (leb c most_number) (Ok c) (Err OutOfRange) f) ∙ e)

-- behind the full stop no line comes, and the plan is what was set
ended : (s : Settings) (t : Topic) (xs : List Line) (w : Wanted) → stopped s.last ≡ true → s.topic ≡ Some t → Run s xs w
    → (xs ≡ []) × (record { topic = t; cap = unwrap_or s.cap (height_of t); most = s.most } ≡ w)
ended s t [] w f e h = (
  refl,
  same_ok _ w
      (ap (λ o. wanted_by s o) (sym e)
      ∙ ap (λ b. elim b as (λ _. Result Wanted Refusal) [ true ↦ wanted_by s s.topic | false ↦ Err SheetShort ]) (sym f) ∙ h),
)
ended s t (x ∷ xs) w f e h = no_true (sym h.1 ∙ f)

-- the full stop, and before it a cap or none
abbrev Tail : Topic → Option ℕ → List Line → Wanted → Type 0
Tail t c xs w =
    (m : ℕ) × (m ≤ most_number) × (xs ≡ Stop m ∷ []) × (record { topic = t; cap = unwrap_or c (height_of t); most = m } ≡ w)

at_stop : (s u : Settings) (t : Topic) (m : ℕ) (xs : List Line) (w : Wanted) → s.topic ≡ Some t
    → with_most s kind.Stop (counted m) ≡ Ok u → Run u xs w → Tail t s.cap (Stop m ∷ xs) w
at_stop s u t m xs w e f h = go (counted m) refl
  where
    go : (r : Result ℕ Refusal) → counted m ≡ r → Tail t s.cap (Stop m ∷ xs) w
    go (Err k) g = clash u k (sym (ap (with_most s kind.Stop) g) ∙ f)
    go (Ok d) g =
        let c = count_of m d g in
        let same : record { last = Some kind.Stop; topic = s.topic; cap = s.cap; most = d } ≡ u = same_ok _ u (sym (ap (with_most s kind.Stop) g) ∙ f) in
        let z = ended (record { last = Some kind.Stop; topic = s.topic; cap = s.cap; most = d }) t xs w refl e (subst (λ v. Run v xs w) (sym same) h) in (
          m,
          c.0,
          ap (λ ys. Stop m ∷ ys) z.0,
          ap (λ n. record { topic = t; cap = unwrap_or s.cap (height_of t); most = n }) c.1 ∙ z.1,
        )

-- behind a cap only the full stop comes
after_cap : (t : Topic) (c : ℕ) (xs : List Line) (w : Wanted)
    → Run (record { last = Some kind.Cap; topic = Some t; cap = Some c; most = 0 }) xs w → Tail t (Some c) xs w
after_cap t c [] w h = clash w SheetShort h
after_cap t c (Regions n ∷ xs) w h = no_true (placed _ h.0 (Regions n) h.2).0
after_cap t c (Polygon n ∷ xs) w h = no_true (placed _ h.0 (Polygon n) h.2).0
after_cap t c (Pair a b ∷ xs) w h = no_true (placed _ h.0 (Pair a b) h.2).0
after_cap t c (Cap d ∷ xs) w h = no_true (placed _ h.0 (Cap d) h.2).0
after_cap t c (Stop m ∷ xs) w h =
    at_stop (record { last = Some kind.Cap; topic = Some t; cap = Some c; most = 0 }) h.0 t m xs w refl (placed _ h.0 (Stop m) h.2).1 h.3

-- the rest of a sheet behind its pairs
abbrev Rest : Topic → List Line → Wanted → Type 0
Rest t xs w =
    (c : Option ℕ) × IfSome c (λ h. h ≤ most_number) × (m : ℕ) × (m ≤ most_number)
    × (xs ≡ cap_lines c ++ (Stop m ∷ [])) × (record { topic = t; cap = unwrap_or c (height_of t); most = m } ≡ w)

at_cap : (k : Kind) (t : Topic) (u : Settings) (c : ℕ) (xs : List Line) (w : Wanted)
    → with_cap (body k t) kind.Cap (counted c) ≡ Ok u → Run u xs w → Rest t (Cap c ∷ xs) w
at_cap k t u c xs w f h = go (counted c) refl
  where
    go : (r : Result ℕ Refusal) → counted c ≡ r → Rest t (Cap c ∷ xs) w
    go (Err e) g = clash u e (sym (ap (with_cap (body k t) kind.Cap) g) ∙ f)
    go (Ok d) g =
        let n = count_of c d g in
        let same : record { last = Some kind.Cap; topic = Some t; cap = Some d; most = 0 } ≡ u = same_ok _ u (sym (ap (with_cap (body k t) kind.Cap) g) ∙ f) in
        let here = subst (λ v. Run v xs w) (sym same) h in
        let z = after_cap t c xs w (subst (λ e. Run (record { last = Some kind.Cap; topic = Some t; cap = Some e; most = 0 }) xs w) (sym n.1) here) in
        (Some c, n.0, z.0, z.1, ap (λ ys. Cap c ∷ ys) z.2, z.3)

at_body_stop : (k : Kind) (t : Topic) (u : Settings) (m : ℕ) (xs : List Line) (w : Wanted)
    → with_most (body k t) kind.Stop (counted m) ≡ Ok u → Run u xs w → Rest t (Stop m ∷ xs) w
at_body_stop k t u m xs w f h =
    let z = at_stop (body k t) u t m xs w refl f h in
    (None, tt, z.0, z.1, z.2, z.3)

short_body : (k : Kind) → InBody k → (t : Topic) (w : Wanted) {Y : Type 0} → at_end (body k t) [] ≡ Ok w → Y
short_body k b t w h =
    clash w SheetShort
    (ap (λ v. elim v as (λ _. Result Wanted Refusal) [ true ↦ wanted_by (body k t) (Some t) | false ↦ Err SheetShort ]) (sym (in_body k b).not_stopped) ∙ h)

-- a polygon takes no pairs
polygon_rest : (k : Kind) (n : ℕ) (xs : List Line) (w : Wanted) → InBody k → Run (body k (polygon n)) xs w → Rest (polygon n) xs w
polygon_rest k n [] w b h = short_body k b (polygon n) w h
polygon_rest k n (Regions m ∷ xs) w b h = no_true (sym (never_again k).0 ∙ (placed _ h.0 (Regions m) h.2).0)
polygon_rest k n (Polygon m ∷ xs) w b h = no_true (sym (never_again k).1 ∙ (placed _ h.0 (Polygon m) h.2).0)
polygon_rest k n (Pair a c ∷ xs) w b h = clash h.0 _ (placed _ h.0 (Pair a c) h.2).1
polygon_rest k n (Cap c ∷ xs) w b h = at_cap k (polygon n) h.0 c xs w (placed _ h.0 (Cap c) h.2).1 h.3
polygon_rest k n (Stop m ∷ xs) w b h = at_body_stop k (polygon n) h.0 m xs w (placed _ h.0 (Stop m) h.2).1 h.3

-- regions take pairs, each of two different regions
abbrev Pairs : touch.Regions → List Line → Wanted → Type 0
Pairs m xs w =
    (ps : List (ℕ × ℕ)) × AllByRecursion (GoodPair m.count_of) ps × (ys : List Line) × (xs ≡ map pair_line ps ++ ys)
    × Rest (regions (record { count_of = m.count_of; rows = table_after m.rows ps })) ys w

abbrev with_one : touch.Regions → ℕ → ℕ → touch.Regions
with_one m a b = record { count_of = m.count_of; rows = with_pair m.rows a b }

no_pairs : (m : touch.Regions) (xs : List Line) (w : Wanted) → Rest (regions m) xs w → Pairs m xs w
unfolding table_after
no_pairs m xs w h = ([], tt, xs, refl, h)

one_pair : (m : touch.Regions) (a b : ℕ) (xs : List Line) (w : Wanted) → pair_fault m.count_of a b ≡ None
    → Pairs (with_one m a b) xs w → Pairs m (Pair a b ∷ xs) w
unfolding table_after
one_pair m a b xs w good h =
    let g = pair_good m.count_of a b good in
    ((a, b) ∷ h.0, (g, h.1), h.2, ap (λ ys. Pair a b ∷ ys) h.3, h.4)

regions_rest : (k : Kind) (m : touch.Regions) (xs : List Line) (w : Wanted) → InBody k → Run (body k (regions m)) xs w → Pairs m xs w
regions_rest k m [] w b h = short_body k b (regions m) w h
regions_rest k m (Regions n ∷ xs) w b h = no_true (sym (never_again k).0 ∙ (placed _ h.0 (Regions n) h.2).0)
regions_rest k m (Polygon n ∷ xs) w b h = no_true (sym (never_again k).1 ∙ (placed _ h.0 (Polygon n) h.2).0)
regions_rest k m (Pair a c ∷ xs) w b h =
    go (pair_fault m.count_of a c) refl (λ r. regions_rest kind.Pair (with_one m a c) xs w tt r)
  where
    go : (o : Option Refusal) → pair_fault m.count_of a c ≡ o
        → (Run (body kind.Pair (regions (with_one m a c))) xs w → Pairs (with_one m a c) xs w) → Pairs m (Pair a c ∷ xs) w
    go (Some e) f rest =
        clash h.0 e (sym (ap (with_topic (body k (regions m)) kind.Pair) (pair_unset m a c e f)) ∙ (placed (body k (regions m)) h.0 (Pair a c) h.2).1)
    go None f rest =
        let same : body kind.Pair (regions (with_one m a c)) ≡ h.0 =
        same_ok _ h.0 (sym (ap (with_topic (body k (regions m)) kind.Pair) (pair_set m a c f)) ∙ (placed (body k (regions m)) h.0 (Pair a c) h.2).1) in
        one_pair m a c xs w f (rest (subst (λ v. Run v xs w) (sym same) h.3))
regions_rest k m (Cap c ∷ xs) w b h = no_pairs m _ w (at_cap k (regions m) h.0 c xs w (placed _ h.0 (Cap c) h.2).1 h.3)
regions_rest k m (Stop n ∷ xs) w b h = no_pairs m _ w (at_body_stop k (regions m) h.0 n xs w (placed _ h.0 (Stop n) h.2).1 h.3)

-- ---- the whole sheet

abbrev AskedBy : List Line → Wanted → Type 0
AskedBy xs w = (c : Content) × Good c × (xs ≡ lines_of c) × (wanted_for c ≡ w)

by_pairs : (n : ℕ) (xs : List Line) (w : Wanted) → 1 ≤ n → n ≤ 64 → Pairs (record { count_of = n; rows = bare }) xs w
    → AskedBy (Regions n ∷ xs) w
by_pairs n xs w some few (ps, good, ys, e, (c, hc, m, hm, f, plan)) = (
  record { subject = of_regions n ps; cap = c; most = m },
  ((some, few, good), hc, hm),
  ap (λ zs. Regions n ∷ zs) (e ∙ ap (λ zs. map pair_line ps ++ zs) f),
  plan,
)

by_rest : (n : ℕ) (xs : List Line) (w : Wanted) → 3 ≤ n → n ≤ 24 → Rest (polygon n) xs w → AskedBy (Polygon n ∷ xs) w
by_rest n xs w some few (c, hc, m, hm, f, plan) =
    (record { subject = of_polygon n; cap = c; most = m }, ((some, few), hc, hm), ap (λ zs. Polygon n ∷ zs) f, plan)

by_begun : Result touch.Regions Refusal → Result Topic Refusal
by_begun r = elim r [ Ok m ↦ Ok (regions m) | Err k ↦ Err k ]

at_regions : (n : ℕ) (t : Settings) (xs : List Line) (w : Wanted) → with_topic unset kind.Regions (regions_with n) ≡ Ok t → Run t xs w
    → AskedBy (Regions n ∷ xs) w
unfolding by_begun
at_regions n t xs w e h = go (begun n) refl
  where
    set : Result touch.Regions Refusal → Result Settings Refusal
    set r = with_topic unset kind.Regions (by_begun r)

    go : (r : Result touch.Regions Refusal) → begun n ≡ r → AskedBy (Regions n ∷ xs) w
    go (Err k) f = clash t k (sym (ap set f) ∙ e)
    go (Ok m) f =
        let is = begun_is n m (sym f) in
        let same : body kind.Regions (regions m) ≡ t = same_ok _ t (sym (ap set f) ∙ e) in
        let here : Run (body kind.Regions (regions (record { count_of = n; rows = bare }))) xs w =
        subst (λ u. Run (body kind.Regions (regions u)) xs w) is.2 (subst (λ v. Run v xs w) (sym same) h) in
        by_pairs n xs w is.0 is.1 (regions_rest kind.Regions (record { count_of = n; rows = bare }) xs w tt here)

at_polygon : (n : ℕ) (t : Settings) (xs : List Line) (w : Wanted) → with_topic unset kind.Polygon (polygon_with n) ≡ Ok t → Run t xs w
    → AskedBy (Polygon n ∷ xs) w
at_polygon n t xs w e h = go (leb 3 n && leb n 24) refl
  where
    by : Bool → Result Topic Refusal
    by b = cond b (Ok (polygon n)) (Err OutOfRange)

    go : (b : Bool) → (leb 3 n && leb n 24) ≡ b → AskedBy (Polygon n ∷ xs) w
    go false f = clash t OutOfRange (sym (ap (λ b. with_topic unset kind.Polygon (by b)) f) ∙ e)
    go true f =
        let p = and_parts (leb 3 n) (leb n 24) f in
        let same : body kind.Polygon (polygon n) ≡ t = same_ok _ t (sym (ap (λ b. with_topic unset kind.Polygon (by b)) f) ∙ e) in
        by_rest n xs w (leb-true 3 n p.0) (leb-true n 24 p.1)
        (polygon_rest kind.Polygon n xs w tt (subst (λ v. Run v xs w) (sym same) h))

asked_by : (xs : List Line) (w : Wanted) → Run unset xs w → AskedBy xs w
asked_by [] w h = clash w SheetShort h
asked_by (Regions n ∷ xs) w h = at_regions n h.0 xs w (placed unset h.0 (Regions n) h.2).1 h.3
asked_by (Polygon n ∷ xs) w h = at_polygon n h.0 xs w (placed unset h.0 (Polygon n) h.2).1 h.3
asked_by (Pair a b ∷ xs) w h = no_true (placed unset h.0 (Pair a b) h.2).0
asked_by (Cap c ∷ xs) w h = no_true (placed unset h.0 (Cap c) h.2).0
asked_by (Stop m ∷ xs) w h = no_true (placed unset h.0 (Stop m) h.2).0

-- the touch table of good pairs is the one that a map of them has
after_all : (m : touch.Regions) (ps : List (ℕ × ℕ)) → AllByRecursion (GoodPair m.count_of) ps
    → after_pairs m ps ≡ Ok (record { count_of = m.count_of; rows = table_after m.rows ps })
unfolding after_pairs table_after
after_all m [] h = refl
after_all m (p ∷ ps) h =
    after_good m p ps (good_pair m.count_of p.0 p.1 h.0) ∙ after_all (with_one m p.0 p.1) ps h.1

means : (s : Subject) → GoodSubject s → Meant s (topic_for s)
means (of_regions n ps) g =
    meant n ps (record { count_of = n; rows = table_after bare ps }) g.1 (after_all (record { count_of = n; rows = bare }) ps g.2)
means (of_polygon n) g = refl

asks_lines : (bs : List ℕ) (w : Wanted) → Parsed unset (cut bs).lines (cut bs).rest w → Asked bs w
asks_lines bs w (xs, lines, rest, ran) =
    let a = asked_by xs w ran in
    record {
      content = a.0;
      good = a.1;
      sheet =
          sym (uncut bs) ∙ ap (λ r. whole (cut bs).lines r) rest ∙ append-nil (flat_map (λ l. l ++ (10 ∷ [])) (cut bs).lines)
          ∙ ap (flat_map (λ l. l ++ (10 ∷ []))) lines ∙ joined_texts xs ∙ ap sheet_of a.2;
      plan = sym a.3;
      touching = subst (λ (u : Wanted). Meant a.0.subject u.topic) a.3 (means a.0.subject a.1.0);
    }

pub asks : (bs : List ℕ) (w : Wanted) → read_all bs ≡ Ok w → Asked bs w
asks bs w e = go (cases_lt most_bytes (length bs))
  where
    go : (most_bytes < length bs) ⊎ (length bs ≤ most_bytes) → Asked bs w
    go (inl long) = clash w _ (sym (read_long bs long) ∙ e)
    go (inr short) = asks_lines bs w (parsed 1 unset (cut bs).lines (cut bs).rest w (sym (read_short bs short) ∙ e))

pub accepts : (bs : List ℕ) → Accepting bs (read_all bs)
accepts bs =
    record {
      reads = λ c good short e. ap read_all e ∙ reads_written c good (subst (λ xs. length xs ≤ most_bytes) e short);
      only = λ w e. asks bs w e;
    }
