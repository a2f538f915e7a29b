-- Bytes are read as requests exactly if they are the protocol of those; the first unreadable line.
use Rattle.std.proofs.Common.{◌≡◌, ℕ, suc, ◌+◌, ◌-◌, ◌<◌, Bool, true, false, cond, eqb, ◌⊎◌, List, [], ◌∷◌, ◌++◌, map, length, get_or, is_some, Some, None, Ok, Err, Option, Result, sym, refl, ap, ◌∙◌, subst, inl, inr, arith}
use Rattle.std.specs.List.{flat_map, prefix_len, AllByRecursion}
use Rattle.std.proofs.lemmas.List.{append_assoc, append-nil}
use Rattle.std.proofs.lemmas.Bool.{eqb-true}
use Rattle.engine.specs.Runs.{Order}
use Rattle.sheets.specs.Cut as cuts
use Rattle.sheets.specs.Cut.{Cut, cut}
use Rattle.sheets.proofs.Cuts.{cut_line}
use Rattle.protocols.specs.Laws.{Written, Asks, Accepting, FirstUnreadable, Refusing}
use Rattle.protocols.specs.Reading.{request_at, readable, in_front, requests_from, requests_in, ordered}
use Rattle.protocols.specs.Requests.{Request, Good, text_of, protocol_of, order_for}
use Rattle.protocols.proofs.Spelling.{spells, text_without}

abbrev Read : Type 0
Read = Result (List Request) ℕ

differ : {X E : Type 0} (x : X) (e : E) {Y : Type 0} → ◌≡◌ {A = Result X E} (Ok x) (Err e) → Y
differ x e p = absurd (let z : ◌≡◌ {A = ℕ} 0 1 = cc in omega arith)

-- ---- lines that are cut, put together again

abbrev together : List (List ℕ) → List ℕ → List ℕ
together ls r = flat_map (λ l. l ++ (10 ∷ [])) ls ++ r

by_break : ℕ → List ℕ → Bool → Cut
by_break b bs t =
    elim t [
      | true ↦ record { lines = [] ∷ (cut bs).lines; rest = (cut bs).rest }
      | false ↦ cuts.in_front b (cut bs).lines (cut bs).rest
    ]

with_front : (b : ℕ) (ls : List (List ℕ)) (r : List ℕ)
    → b ∷ together ls r ≡ together (cuts.in_front b ls r).lines (cuts.in_front b ls r).rest
with_front b [] r = refl
with_front b (l ∷ ls) r = refl

cut_back : (bs : List ℕ) → bs ≡ together (cut bs).lines (cut bs).rest
unfolding cut by_break
cut_back [] = refl
cut_back (b ∷ bs) = go (eqb b 10) refl (cut_back bs)
  where
    back : Cut → List ℕ
    back c = together c.lines c.rest

    go : (t : Bool) → eqb b 10 ≡ t → bs ≡ together (cut bs).lines (cut bs).rest
        → b ∷ bs ≡ together (cut (b ∷ bs)).lines (cut (b ∷ bs)).rest
    go true e ih =
        ap (λ c. c ∷ bs) (eqb-true b 10 e) ∙ ap (λ ys. 10 ∷ ys) ih ∙ ap back (sym (ap (by_break b bs) e))
    go false e ih =
        ap (λ ys. b ∷ ys) ih ∙ with_front b (cut bs).lines (cut bs).rest ∙ ap back (sym (ap (by_break b bs) e))

together_texts : (qs : List Request) → together (map text_of qs) [] ≡ protocol_of qs
unfolding protocol_of
together_texts qs = append-nil _ ∙ texts qs
  where
    texts : (xs : List Request) → flat_map (λ l. l ++ (10 ∷ [])) (map text_of xs) ≡ flat_map (λ q. text_of q ++ (10 ∷ [])) xs
    texts [] = refl
    texts (q ∷ xs) = ap (λ ys. (text_of q ++ (10 ∷ [])) ++ ys) (texts xs)

cut_written : (qs : List Request) → AllByRecursion Good qs → cut (protocol_of qs) ≡ record { lines = map text_of qs; rest = [] }
unfolding protocol_of cut
cut_written [] h = refl
cut_written (q ∷ qs) h =
    ap cut (append_assoc (text_of q) (10 ∷ []) (protocol_of qs))
    ∙ cut_line (text_of q) (protocol_of qs) (text_without q h.0)
    ∙ ap (λ (c : Cut). record { lines = text_of q ∷ c.lines; rest = c.rest }) (cut_written qs h.1)

-- ---- reading on, line by line

by_line : ℕ → List (List ℕ) → List ℕ → Option Request → Read
by_line n ls r o = elim o [ None ↦ Err n | Some q ↦ in_front q (requests_from (n + 1) ls r) ]

pub from_none : (n : ℕ) (l : List ℕ) (ls : List (List ℕ)) (r : List ℕ) → request_at l ≡ None → requests_from n (l ∷ ls) r ≡ Err n
unfolding requests_from by_line
from_none n l ls r e = ap (by_line n ls r) e

pub from_some : (n : ℕ) (l : List ℕ) (ls : List (List ℕ)) (r : List ℕ) (q : Request) → request_at l ≡ Some q
    → requests_from n (l ∷ ls) r ≡ in_front q (requests_from (n + 1) ls r)
unfolding requests_from by_line
from_some n l ls r q e = ap (by_line n ls r) e

abbrev Told : List (List ℕ) → List ℕ → List Request → Type 0
Told ls r qs = AllByRecursion Good qs × (ls ≡ map text_of qs) × (r ≡ [])

from_is : (n : ℕ) (ls : List (List ℕ)) (r : List ℕ) (qs : List Request) → requests_from n ls r ≡ Ok qs → Told ls r qs
unfolding requests_from
from_is n [] [] qs e = let same : [] ≡ qs = cc in subst (λ (xs : List Request). Told [] [] xs) same (tt, refl, refl)
from_is n [] (b ∷ r) qs e = differ qs n (sym e)
from_is n (l ∷ ls) r qs e = go (request_at l) refl (requests_from (n + 1) ls r) refl (from_is (n + 1) ls r)
  where
    go : (o : Option Request) → request_at l ≡ o → (x : Read) → requests_from (n + 1) ls r ≡ x
        → ((ys : List Request) → requests_from (n + 1) ls r ≡ Ok ys → Told ls r ys) → Told (l ∷ ls) r qs
    go None f x g ih = differ qs n (sym e ∙ from_none n l ls r f)
    go (Some q) f (Err m) g ih = differ qs m (sym e ∙ from_some n l ls r q f ∙ ap (in_front q) g)
    go (Some q) f (Ok ys) g ih =
        let got : Ok (q ∷ ys) ≡ Ok qs = sym (from_some n l ls r q f ∙ ap (in_front q) g) ∙ e in
        let same : q ∷ ys ≡ qs = cc in
        let t = ih ys g in
        let s = (spells l q).0 f in
        subst (λ (xs : List Request). Told (l ∷ ls) r xs) same
        ((s.0, t.0), ap (λ x. x ∷ ls) s.1 ∙ ap (λ xs. text_of q ∷ xs) t.1, t.2)

is_from : (n : ℕ) (qs : List Request) → AllByRecursion Good qs → requests_from n (map text_of qs) [] ≡ Ok qs
unfolding requests_from
is_from n [] h = refl
is_from n (q ∷ qs) h =
    from_some n (text_of q) (map text_of qs) [] q ((spells (text_of q) q).1 (h.0, refl))
    ∙ ap (in_front q) (is_from (n + 1) qs h.1)

pub asks : (bytes : List ℕ) → Asks bytes (requests_in bytes)
unfolding requests_in
asks bytes qs = (
  to,
  λ h. ap requests_in h.1
      ∙ ap (λ (c : Cut). requests_from 1 c.lines c.rest) (cut_written qs h.0) ∙ is_from 1 qs h.0,
)
  where
    to : requests_in bytes ≡ Ok qs → Written bytes qs
    to e =
        let t = from_is 1 (cut bytes).lines (cut bytes).rest qs e in
        (t.0, cut_back bytes ∙ ap (λ ls. together ls (cut bytes).rest) t.1 ∙ ap (λ r. together (map text_of qs) r) t.2 ∙ together_texts qs)

-- ---- the orders of the requests

pub accepts : (bytes : List ℕ) → Accepting bytes (ordered (requests_in bytes))
accepts bytes = record { asks = asks bytes; reads = λ qs h. ap ordered ((asks bytes qs).1 h); only = λ os e. go (requests_in bytes) refl os e }
  where
    go : (x : Read) → requests_in bytes ≡ x → (os : List Order) → ordered (requests_in bytes) ≡ Ok os
        → (qs : List Request) × (Written bytes qs × (os ≡ map order_for qs))
    go (Err n) f os e = differ os n (sym e ∙ ap ordered f)
    go (Ok qs) f os e =
        let got : Ok os ≡ Ok (map order_for qs) = sym e ∙ ap ordered f in
        let same : os ≡ map order_for qs = cc in
        (qs, ((asks bytes qs).0 f, same))

-- ---- the first unreadable line

abbrev Here : ℕ → List (List ℕ) → List ℕ → ℕ → Type 0
Here n ls r m =
    ((m < n + length ls) × (request_at (get_or ls (m - n) []) ≡ None)) ⊎ ((m ≡ n + length ls) × (0 < length r))

leading_none : (l : List ℕ) (ls : List (List ℕ)) → request_at l ≡ None → prefix_len readable (l ∷ ls) ≡ 0
leading_none l ls e = ap (λ (o : Option Request). cond (is_some o) (1 + prefix_len readable ls) 0) e

leading_some : (l : List ℕ) (ls : List (List ℕ)) (q : Request) → request_at l ≡ Some q
    → prefix_len readable (l ∷ ls) ≡ 1 + prefix_len readable ls
leading_some l ls q e = ap (λ (o : Option Request). cond (is_some o) (1 + prefix_len readable ls) 0) e

pub from_err : (n : ℕ) (ls : List (List ℕ)) (r : List ℕ) (m : ℕ) → requests_from n ls r ≡ Err m
    → (m ≡ n + prefix_len readable ls) × Here n ls r m
unfolding requests_from
from_err n [] [] m e = differ [] m e
from_err n [] (b ∷ r) m e = let same : n ≡ m = cc in (omega arith, inr (omega arith, omega arith))
from_err n (l ∷ ls) r m e = go (request_at l) refl (requests_from (n + 1) ls r) refl (from_err (n + 1) ls r)
  where
    go : (o : Option Request) → request_at l ≡ o → (x : Read) → requests_from (n + 1) ls r ≡ x
        → ((k : ℕ) → requests_from (n + 1) ls r ≡ Err k → (k ≡ n + 1 + prefix_len readable ls) × Here (n + 1) ls r k)
        → (m ≡ n + prefix_len readable (l ∷ ls)) × Here n (l ∷ ls) r m
    go None f x g ih =
        let got : ◌≡◌ {A = Read} (Err n) (Err m) = sym (from_none n l ls r f) ∙ e in
        let same : n ≡ m = cc in
        let none = leading_none l ls f in
        let first : m - n ≡ 0 = omega arith in
        (omega arith, inl (omega arith, ap (λ k. request_at (get_or (l ∷ ls) k [])) first ∙ f))
    go (Some q) f (Ok ys) g ih = differ (q ∷ ys) m (sym (from_some n l ls r q f ∙ ap (in_front q) g) ∙ e)
    go (Some q) f (Err k) g ih =
        let got : ◌≡◌ {A = Read} (Err k) (Err m) = sym (from_some n l ls r q f ∙ ap (in_front q) g) ∙ e in
        let same : k ≡ m = cc in
        let t = ih k g in
        let some = leading_some l ls q f in
        let on = t.0 in (
          omega arith,
          elim t.1 [
            | inl h ↦
                let less = h.0 in
                let next : m - n ≡ suc (k - (n + 1)) = omega arith in
                inl (omega arith, ap (λ j. request_at (get_or (l ∷ ls) j [])) next ∙ h.1)
            | inr h ↦ let end = h.0 in inr (omega arith, h.1)
          ],
        )

pub refuses : (bytes : List ℕ) → Refusing bytes (ordered (requests_in bytes))
unfolding requests_in
refuses bytes n e = go (requests_in bytes) refl
  where
    go : (x : Read) → requests_in bytes ≡ x → FirstUnreadable bytes n
    go (Ok qs) f = differ (map order_for qs) n (sym (ap ordered f) ∙ e)
    go (Err m) f =
        let got : ◌≡◌ {A = Result (List Order) ℕ} (Err m) (Err n) = sym (ap ordered f) ∙ e in
        let same : m ≡ n = cc in
        let t = from_err 1 (cut bytes).lines (cut bytes).rest n (f ∙ ap Err same) in
        record {
          behind = t.0;
          here = elim t.1 [ inl h ↦ let less = h.0 in inl (omega arith, h.1) | inr h ↦ inr h ];
        }

-- what is read as defined keeps both laws
pub accepting_as : (bytes : List ℕ) (r : Result (List Order) ℕ) → r ≡ ordered (requests_in bytes) → Accepting bytes r
accepting_as bytes r e = subst (λ x. Accepting bytes x) (sym e) (accepts bytes)

pub refusing_as : (bytes : List ℕ) (r : Result (List Order) ℕ) → r ≡ ordered (requests_in bytes) → Refusing bytes r
refusing_as bytes r e = subst (λ x. Refusing bytes x) (sym e) (refuses bytes)
