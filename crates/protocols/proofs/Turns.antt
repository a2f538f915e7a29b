-- One turn of the reader's loop: the calls so far and what is left give what the whole protocol gives.
use Rattle.std.proofs.Common.{◌≡◌, ℕ, ◌+◌, ◌<◌, ◌≤◌, List, [], ◌∷◌, ◌++◌, map, length, Some, None, Ok, Err, Result, Vec, sym, refl, ap, ◌∙◌, subst, arith, length-append}
use Rattle.std.proofs.lemmas.List.{append_assoc, append-nil, map_push}
use Rattle.engine.specs.Runs.{Order, order_of}
use Rattle.engine.specs.declared.call.Call.{Call}
use Rattle.sheets.specs.Cut.{Cut, cut}
use Rattle.sheets.proofs.Cuts.{cut_line, cut_rest}
use Rattle.protocols.specs.Laws.{FirstRead}
use Rattle.protocols.specs.Views.{OnNoMemory}
use Rattle.protocols.specs.declared.error.ProtocolError.{ProtocolError}
use Rattle.protocols.specs.declared.error.ProtocolError.TheVariants.{Unreadable, NoMemory}
use Rattle.protocols.specs.Reading.{parted, request_at, in_front, requests_from, requests_in, ordered}
use Rattle.protocols.specs.Requests.{Request, order_for}
use Rattle.items.proofs.Decimal.{clash}
use Rattle.protocols.proofs.Parting.{parted_is, parted_front, parted_none}
use Rattle.protocols.proofs.Whole.{from_err, from_none, from_some}

abbrev pub following : List Order → Result (List Order) ℕ → Result (List Order) ℕ
following os (Ok ps) = Ok (os ++ ps)
following os (Err n) = Err n

-- what is left, read on behind these orders
abbrev pub read_on : List Order → ℕ → List ℕ → Result (List Order) ℕ
read_on os n rest = following os (ordered (requests_from n (cut rest).lines (cut rest).rest))

-- one order more
one_more : (os : List Order) (q : Request) (x : Result (List Request) ℕ)
    → following (os ++ (order_for q ∷ [])) (ordered x) ≡ following os (ordered (in_front q x))
one_more os q (Ok qs) = ap Ok (append_assoc os (order_for q ∷ []) (map order_for qs))
one_more os q (Err n) = refl

cut_parted : (rest l r : List ℕ) → parted 10 rest ≡ Some (l, r)
    → cut rest ≡ record { lines = l ∷ (cut r).lines; rest = (cut r).rest }
cut_parted rest l r e = ap cut (parted_is 10 rest l r e) ∙ cut_line l r (parted_front 10 rest l r e)

at_line : (os : List Order) (n : ℕ) (rest l r : List ℕ) → parted 10 rest ≡ Some (l, r)
    → read_on os n rest ≡ following os (ordered (requests_from n (l ∷ (cut r).lines) (cut r).rest))
at_line os n rest l r e = ap (λ (c : Cut). following os (ordered (requests_from n c.lines c.rest))) (cut_parted rest l r e)

pub turn_on : (os : List Order) (n : ℕ) (rest l r : List ℕ) (q : Request) → parted 10 rest ≡ Some (l, r)
    → request_at l ≡ Some q → read_on (os ++ (order_for q ∷ [])) (n + 1) r ≡ read_on os n rest
turn_on os n rest l r q e f =
    one_more os q (requests_from (n + 1) (cut r).lines (cut r).rest)
    ∙ ap (λ x. following os (ordered x)) (sym (from_some n l (cut r).lines (cut r).rest q f))
    ∙ sym (at_line os n rest l r e)

pub turn_bad : (os : List Order) (n : ℕ) (rest l r : List ℕ) → parted 10 rest ≡ Some (l, r)
    → request_at l ≡ None → Err n ≡ read_on os n rest
turn_bad os n rest l r e f =
    ap (λ x. following os (ordered x)) (sym (from_none n l (cut r).lines (cut r).rest f)) ∙ sym (at_line os n rest l r e)

at_rest : (os : List Order) (n : ℕ) (rest : List ℕ) → parted 10 rest ≡ None
    → read_on os n rest ≡ following os (ordered (requests_from n [] rest))
at_rest os n rest e =
    ap (λ (c : Cut). following os (ordered (requests_from n c.lines c.rest))) (cut_rest rest (parted_none 10 rest e))

pub turn_end : (os : List Order) (n : ℕ) (rest : List ℕ) → parted 10 rest ≡ None → length rest ≡ 0 → Ok os ≡ read_on os n rest
unfolding requests_from
turn_end os n rest e none = ended rest none ∙ sym (at_rest os n rest e)
  where
    ended : (r : List ℕ) → length r ≡ 0 → Ok os ≡ following os (ordered (requests_from n [] r))
    ended [] h = ap Ok (sym (append-nil os))
    ended (b ∷ r) h = absurd (omega arith)

pub turn_cut : (os : List Order) (n : ℕ) (rest : List ℕ) → parted 10 rest ≡ None → 0 < length rest → Err n ≡ read_on os n rest
unfolding requests_from
turn_cut os n rest e some = ended rest some ∙ sym (at_rest os n rest e)
  where
    ended : (r : List ℕ) → 0 < length r → Err n ≡ following os (ordered (requests_from n [] r))
    ended [] h = absurd (omega arith)
    ended (b ∷ r) h = refl

-- a line that is read is not empty
some_line : (l : List ℕ) (q : Request) → request_at l ≡ Some q → 1 ≤ length l
unfolding request_at parted
some_line [] q e = clash q e
some_line (b ∷ l) q e = omega arith

pub turn_less : (rest l r : List ℕ) (q : Request) → parted 10 rest ≡ Some (l, r) → request_at l ≡ Some q
    → 2 + length r ≤ length rest
turn_less rest l r q e f =
    let long = ap length (parted_is 10 rest l r e) ∙ length-append l (10 ∷ r) in
    let some = some_line l q f in
    omega arith

-- before the first line
pub turn_first : (calls : List Call) (bytes : List ℕ) → calls ≡ []
    → read_on (map order_of calls) 1 bytes ≡ ordered (requests_in bytes)
unfolding requests_in
turn_first calls bytes e = ap (λ (cs : List Call). read_on (map order_of cs) 1 bytes) e ∙ none (ordered (requests_in bytes))
  where
    none : (x : Result (List Order) ℕ) → following [] x ≡ x
    none (Ok os) = refl
    none (Err n) = refl

-- the call of the line is pushed
pub turn_pushed : (calls pushed : List Call) (call : Call) (n : ℕ) (rest l r : List ℕ) (q : Request)
    → pushed ≡ calls ++ (call ∷ []) → order_of call ≡ order_for q → parted 10 rest ≡ Some (l, r) → request_at l ≡ Some q
    → read_on (map order_of pushed) (n + 1) r ≡ read_on (map order_of calls) n rest
turn_pushed calls pushed call n rest l r q p o e f =
    ap (λ (cs : List Call). read_on (map order_of cs) (n + 1) r) p
    ∙ ap (λ (os : List Order). read_on os (n + 1) r) (map_push order_of calls call)
    ∙ ap (λ (x : Order). read_on (map order_of calls ++ (x ∷ [])) (n + 1) r) o
    ∙ turn_on (map order_of calls) n rest l r q e f

-- behind some orders there was a first line
read_some : (os : List Order) (n : ℕ) (rest : List ℕ) → 1 ≤ length os → 2 ≤ n → FirstRead (read_on os n rest)
read_some os n rest some second = go (requests_from n (cut rest).lines (cut rest).rest) refl
  where
    go : (x : Result (List Request) ℕ) → requests_from n (cut rest).lines (cut rest).rest ≡ x → FirstRead (following os (ordered x))
    go (Ok qs) e = let sum = length-append os (map order_for qs) in omega arith
    go (Err m) e = let at = (from_err n (cut rest).lines (cut rest).rest m e).0 in omega arith

-- a line that is read is the first, or stands behind it
first_read : (os : List Order) (n : ℕ) (rest l r : List ℕ) (q : Request) → parted 10 rest ≡ Some (l, r) → request_at l ≡ Some q → 1 ≤ n → FirstRead (read_on os n rest)
first_read os n rest l r q e f from =
    let sum = length-append os (order_for q ∷ []) in
    subst FirstRead (turn_on os n rest l r q e f) (read_some (os ++ (order_for q ∷ [])) (n + 1) r (omega arith) (omega arith))

-- where memory runs out behind it
pub out_behind : {Z : Type 0} (result : Result (Vec Call Z) ProtocolError) (bytes : List ℕ) (os : List Order) (n : ℕ) (rest l r : List ℕ) (q : Request) → parted 10 rest ≡ Some (l, r) → request_at l ≡ Some q → read_on os (n + 1) rest ≡ ordered (requests_in bytes) → OnNoMemory result (FirstRead (ordered (requests_in bytes)))
out_behind result bytes os n rest l r q e f whole =
    told result (subst FirstRead whole (first_read os (n + 1) rest l r q e f (omega arith)))
  where
    told : {Z : Type 0} (x : Result (Vec Call Z) ProtocolError) → FirstRead (ordered (requests_in bytes)) → OnNoMemory x (FirstRead (ordered (requests_in bytes)))
    told (Ok calls) h = tt
    told (Err (Unreadable line)) h = tt
    told (Err NoMemory) h = h
