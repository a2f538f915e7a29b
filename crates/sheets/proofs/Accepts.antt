-- A sheet that is written from good values is read as the plan of those values.
use Rattle.std.proofs.Common.{◌≡◌, ℕ, ◌+◌, ◌^◌, ◌<◌, ◌≤◌, Bool, true, false, cond, ◌&&◌, ◌||◌, eqb, leb, ◌≢◌, List, [], ◌∷◌, ◌++◌, map, length, IfSome, Some, None, Ok, Err, decimal, Option, Result, unwrap_or, sym, refl, ap, ◌∙◌, arith}
use Rattle.std.specs.List.{AllByRecursion}
use Rattle.std.specs.Char.{is_ascii_digit}
use Rattle.std.specs.Str.{all_ascii_digits}
use Rattle.std.proofs.lemmas.List.{append_assoc}
use Rattle.std.proofs.lemmas.Bool.{and_parts, and_from, le-leb, lt-leb, ne_eqb, cond-true, cond-false, or_from}
use Rattle.std.proofs.lemmas.Bool.Decides.{nat_tests}
use Rattle.refusals.specs.declared.Refusal.{Refusal}
use Rattle.refusals.specs.declared.Refusal.TheVariants.{OutOfRange, BadPair, SheetLong}
use Rattle.items.specs.Lines.{kind_of_line}
use Rattle.items.specs.Texts.{text_of, Short}
use Rattle.items.specs.declared.line.Kind.{Kind}
use Rattle.items.specs.declared.line.Kind.TheVariants as kind
use Rattle.items.specs.declared.line.Line.{Line}
use Rattle.items.specs.declared.line.Line.TheVariants.{Regions, Polygon, Pair, Cap, Stop}
use Rattle.items.proofs.Decimal.{digits_in}
use Rattle.items.proofs.Texts.{spells}
use Rattle.maps.specs.Touch as touch
use Rattle.maps.specs.Touch.{bare, begun, with_pair, pair_fault}
use Rattle.maps.proofs.Tables.{begun_good}
use Rattle.sheets.specs.Cut.{Cut, cut}
use Rattle.sheets.specs.Order.{follows, stopped}
use Rattle.sheets.specs.Reading.{Wanted, at_line, most_bytes, read_from, read_all}
use Rattle.sheets.specs.Settings.{Settings, Topic, regions, polygon, unset, height_of, regions_with, polygon_with, pair_among, counted, with_topic, with_cap, with_most, set_by, most_number}
use Rattle.sheets.specs.Written.{Content, Subject, of_regions, of_polygon, Good, GoodPair, GoodSubject, sheet_of, pair_line, subject_lines, cap_lines, lines_of, written, table_after, topic_for, wanted_for}
use Rattle.sheets.specs.declared.fault.Fault.{Fault}
use Rattle.sheets.proofs.Cuts.{cut_line}
use Rattle.sheets.proofs.Sequence.{InBody, body, in_body}
use Rattle.sheets.proofs.Steps.{in_place, bytes_good, read_on}

-- ---- written lines are cut where they were joined

no_break_digits : (ds : List ℕ) → all_ascii_digits ds ≡ true → AllByRecursion (λ b. b ≢ 10) ds
no_break_digits [] h = tt
no_break_digits (d ∷ ds) h =
    let p = and_parts (is_ascii_digit d) (all_ascii_digits ds) h in
    (digit-is-no-break d p.0, no_break_digits ds p.1)
  where
    digit-is-no-break : (d : ℕ) → is_ascii_digit d ≡ true → d ≢ 10
    digit-is-no-break d h = grind (arith, nat_tests)

no_break_append : (xs ys : List ℕ) → AllByRecursion (λ b. b ≢ 10) xs → AllByRecursion (λ b. b ≢ 10) ys → AllByRecursion (λ b. b ≢ 10) (xs ++ ys)
no_break_append [] ys hx hy = hy
no_break_append (x ∷ xs) ys hx hy = (hx.0, no_break_append xs ys hx.1 hy)

no_break_decimal : (n : ℕ) → n < 10 ^ 7 → AllByRecursion (λ b. b ≢ 10) (decimal n)
no_break_decimal n h = no_break_digits (decimal n) (digits_in n (omega arith))

no_break_text : (x : Line) → Short x → AllByRecursion (λ b. b ≢ 10) (text_of x)
no_break_text (Regions n) h = (omega arith, (omega arith, no_break_decimal n h))
no_break_text (Polygon n) h = (omega arith, (omega arith, no_break_decimal n h))
no_break_text (Pair a b) h = (
  omega arith,
  (omega arith, no_break_append (decimal a) (32 ∷ decimal b) (no_break_decimal a h.0) (omega arith, no_break_decimal b h.1)),
)
no_break_text (Cap c) h = (omega arith, (omega arith, no_break_decimal c h))
no_break_text (Stop m) h = (omega arith, (omega arith, no_break_decimal m h))

cut_sheet : (xs : List Line) → AllByRecursion Short xs → cut (sheet_of xs) ≡ record { lines = map text_of xs; rest = [] }
unfolding cut sheet_of
cut_sheet [] h = refl
cut_sheet (x ∷ xs) h =
    ap cut (append_assoc (text_of x) (10 ∷ []) (sheet_of xs))
    ∙ cut_line (text_of x) (sheet_of xs) (no_break_text x h.0)
    ∙ ap (λ (c : Cut). record { lines = text_of x ∷ c.lines; rest = c.rest }) (cut_sheet xs h.1)

-- ---- one written line after the other

read_text : (n : ℕ) (s t : Settings) (x : Line) (ls : List (List ℕ)) → stopped s.last ≡ false → Short x
    → follows s.last (kind_of_line x) ≡ true → set_by s x ≡ Ok t
    → read_from n s (text_of x ∷ ls) [] ≡ read_from (n + 1) t ls []
read_text n s t x ls going short place set =
    read_on n s (text_of x) ls [] t
    (bytes_good s (text_of x) x going ((spells (text_of x) x).1 (short, refl)) ∙ in_place s x place ∙ set)

in_count : (c : ℕ) → c ≤ most_number → counted c ≡ Ok c
in_count c h = cond-true (leb c most_number) (Ok c) (Err OutOfRange) (le-leb c most_number h)

-- the full stop ends the sheet
read_stop : (n m : ℕ) (s : Settings) (t : Topic) → stopped s.last ≡ false → follows s.last kind.Stop ≡ true
    → s.topic ≡ Some t → m ≤ most_number
    → read_from n s (text_of (Stop m) ∷ []) [] ≡ Ok (record { topic = t; cap = unwrap_or s.cap (height_of t); most = m })
unfolding read_from
read_stop n m s t going place e h =
    read_text n s (record { last = Some kind.Stop; topic = s.topic; cap = s.cap; most = m }) (Stop m) [] going (omega arith) place
    (ap (with_most s kind.Stop) (in_count m h))
    ∙ ap (λ (o : Option Topic). read_from (n + 1) (record { last = Some kind.Stop; topic = o; cap = s.cap; most = m }) [] []) e

-- a cap or none, and then the full stop
read_tail : (n m : ℕ) (k : Kind) (t : Topic) (c : Option ℕ) → InBody k → IfSome c (λ h. h ≤ most_number) → m ≤ most_number
    → read_from n (body k t) (map text_of (cap_lines c ++ (Stop m ∷ []))) []
    ≡ Ok (record { topic = t; cap = unwrap_or c (height_of t); most = m })
read_tail n m k t None b hc hm = read_stop n m (body k t) t (in_body k b).not_stopped (in_body k b).then_stop refl hm
read_tail n m k t (Some c) b hc hm =
    read_text n (body k t) (record { last = Some kind.Cap; topic = Some t; cap = Some c; most = 0 }) (Cap c) _ (in_body k b).not_stopped
    (omega arith) (in_body k b).then_cap (ap (with_cap (body k t) kind.Cap) (in_count c hc))
    ∙ read_stop (n + 1) m (record { last = Some kind.Cap; topic = Some t; cap = Some c; most = 0 }) t refl refl refl hm

pub good_pair : (n a b : ℕ) → GoodPair n (a, b) → pair_fault n a b ≡ None
good_pair n a b h =
    cond-false (leb n a || leb n b) (Some OutOfRange) (cond (eqb a b) (Some BadPair) None)
    (or_from (leb n a) (leb n b) (lt-leb n a h.0) (lt-leb n b h.1))
    ∙ cond-false (eqb a b) (Some BadPair) None (ne_eqb a b h.2)

by_fault : touch.Regions → ℕ → ℕ → Option Refusal → Result Topic Refusal
by_fault m a b o =
    elim o [
      | None ↦ Ok (regions (record { count_of = m.count_of; rows = with_pair m.rows a b }))
      | Some k ↦ Err k
    ]

pub pair_set : (m : touch.Regions) (a b : ℕ) → pair_fault m.count_of a b ≡ None
    → pair_among m a b ≡ Ok (regions (record { count_of = m.count_of; rows = with_pair m.rows a b }))
unfolding by_fault
pair_set m a b e = ap (by_fault m a b) e

pub pair_unset : (m : touch.Regions) (a b : ℕ) (k : Refusal) → pair_fault m.count_of a b ≡ Some k → pair_among m a b ≡ Err k
unfolding by_fault
pair_unset m a b k e = ap (by_fault m a b) e

-- pair lines, and then whatever gives the plan
read_pairs : (n : ℕ) (k : Kind) (m : touch.Regions) (ps : List (ℕ × ℕ)) (ys : List Line) (w : Result Wanted Fault)
    → InBody k → m.count_of ≤ 64 → AllByRecursion (GoodPair m.count_of) ps
    → ((n' : ℕ) (k' : Kind) → InBody k'
    → read_from n' (body k' (regions (record { count_of = m.count_of; rows = table_after m.rows ps }))) (map text_of ys) [] ≡ w)
    → read_from n (body k (regions m)) (map text_of (map pair_line ps ++ ys)) [] ≡ w
unfolding table_after
read_pairs n k m [] ys w b few h rest = rest n k b
read_pairs n k m (p ∷ ps) ys w b few h rest =
    read_text n (body k (regions m)) (body kind.Pair (regions (record { count_of = m.count_of; rows = with_pair m.rows p.0 p.1 })))
    (pair_line p) _ (in_body k b).not_stopped (omega (arith, h.0), omega (arith, h.0)) (in_body k b).then_pair
    (ap (with_topic (body k (regions m)) kind.Pair) (pair_set m p.0 p.1 (good_pair m.count_of p.0 p.1 h.0)))
    ∙ read_pairs (n + 1) kind.Pair (record { count_of = m.count_of; rows = with_pair m.rows p.0 p.1 }) ps ys w tt few h.1 rest

by_begun : Result touch.Regions Refusal → Result Topic Refusal
by_begun r = elim r [ Ok m ↦ Ok (regions m) | Err k ↦ Err k ]

regions_set : (n : ℕ) → 1 ≤ n → n ≤ 64 → regions_with n ≡ Ok (regions (record { count_of = n; rows = bare }))
unfolding by_begun
regions_set n some few = ap by_begun (sym (begun_good n some few))

polygon_set : (n : ℕ) → 3 ≤ n → n ≤ 24 → polygon_with n ≡ Ok (polygon n)
polygon_set n some few =
    cond-true (leb 3 n && leb n 24) (Ok (polygon n)) (Err OutOfRange) (and_from (leb 3 n) (leb n 24) (le-leb 3 n some) (le-leb n 24 few))

read_lines : (s : Subject) (c : Option ℕ) (m : ℕ) → GoodSubject s → IfSome c (λ h. h ≤ most_number) → m ≤ most_number
    → read_from 1 unset (map text_of (subject_lines s ++ (cap_lines c ++ (Stop m ∷ [])))) []
    ≡ Ok (record { topic = topic_for s; cap = unwrap_or c (height_of (topic_for s)); most = m })
read_lines (of_regions n ps) c m g hc hm =
    read_text 1 unset (body kind.Regions (regions (record { count_of = n; rows = bare }))) (Regions n) _ refl (omega arith) refl
    (ap (with_topic unset kind.Regions) (regions_set n g.0 g.1))
    ∙ read_pairs 2 kind.Regions (record { count_of = n; rows = bare }) ps (cap_lines c ++ (Stop m ∷ [])) _ tt g.1 g.2
    (λ n' k' b. read_tail n' m k' (topic_for (of_regions n ps)) c b hc hm)
read_lines (of_polygon n) c m g hc hm =
    read_text 1 unset (body kind.Polygon (polygon n)) (Polygon n) _ refl (omega arith) refl
    (ap (with_topic unset kind.Polygon) (polygon_set n g.0 g.1))
    ∙ read_tail 2 m kind.Polygon (polygon n) c tt hc hm

-- ---- no number of a good sheet has more than seven digits

short_append : (xs ys : List Line) → AllByRecursion Short xs → AllByRecursion Short ys → AllByRecursion Short (xs ++ ys)
short_append [] ys hx hy = hy
short_append (x ∷ xs) ys hx hy = (hx.0, short_append xs ys hx.1 hy)

short_pairs : (n : ℕ) (ps : List (ℕ × ℕ)) → n ≤ 64 → AllByRecursion (GoodPair n) ps → AllByRecursion Short (map pair_line ps)
short_pairs n [] few h = tt
short_pairs n (p ∷ ps) few h = ((omega (arith, h.0), omega (arith, h.0)), short_pairs n ps few h.1)

short_tail : (c : Option ℕ) (m : ℕ) → IfSome c (λ h. h ≤ most_number) → m ≤ most_number
    → AllByRecursion Short (cap_lines c ++ (Stop m ∷ []))
short_tail None m hc hm = (omega arith, tt)
short_tail (Some c) m hc hm = (omega arith, (omega arith, tt))

short_lines : (s : Subject) (c : Option ℕ) (m : ℕ) → GoodSubject s → IfSome c (λ h. h ≤ most_number) → m ≤ most_number
    → AllByRecursion Short (subject_lines s ++ (cap_lines c ++ (Stop m ∷ [])))
short_lines (of_regions n ps) c m g hc hm =
    (omega arith, short_append (map pair_line ps) _ (short_pairs n ps g.1 g.2) (short_tail c m hc hm))
short_lines (of_polygon n) c m g hc hm = (omega arith, short_tail c m hc hm)

by_length : List ℕ → Bool → Result Wanted Fault
by_length bs t =
    elim t [ true ↦ read_from 1 unset (cut bs).lines (cut bs).rest | false ↦ Err (at_line SheetLong 0) ]

pub read_short : (bs : List ℕ) → length bs ≤ most_bytes → read_all bs ≡ read_from 1 unset (cut bs).lines (cut bs).rest
unfolding read_all by_length
read_short bs h = ap (by_length bs) (le-leb (length bs) most_bytes h)

pub read_long : (bs : List ℕ) → most_bytes < length bs → read_all bs ≡ Err (at_line SheetLong 0)
unfolding read_all by_length
read_long bs h = ap (by_length bs) (lt-leb (length bs) most_bytes h)

pub reads_written : (c : Content) → Good c → length (written c) ≤ most_bytes → read_all (written c) ≡ Ok (wanted_for c)
reads_written c g h =
    read_short (written c) h
    ∙ ap (λ (d : Cut). read_from 1 unset d.lines d.rest) (cut_sheet (lines_of c) (short_lines c.subject c.cap c.most g.0 g.1 g.2))
    ∙ read_lines c.subject c.cap c.most g.0 g.1 g.2
