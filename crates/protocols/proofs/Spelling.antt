-- A line is read as a request exactly if it is that request written out.
use Rattle.std.proofs.Common.{◌≡◌, ℕ, ◌≤◌, Bool, true, false, cond, not, ◌&&◌, eqb, ◌≢◌, ◌⊎◌, List, [], ◌∷◌, ◌++◌, Some, None, codes, decimal, Option, sym, refl, ap, ◌∙◌, subst, inl, inr, arith}
use Rattle.std.specs.Option.{option_map}
use Rattle.std.specs.List.{AllByRecursion}
use Rattle.std.specs.Str.{bytes_eq}
use Rattle.std.proofs.ByRecursion.{All-append, All-weaker, Decides-by_and}
use Rattle.std.proofs.lemmas.Slice.Eq.{bytes_eq-Decides}
use Rattle.std.proofs.lemmas.Bool.{cond-false}
use Rattle.std.proofs.lemmas.Bool.Decides.{Decides-not, Decides-eqb}
use Rattle.lines.specs.Texts.{hexed}
use Rattle.protocols.specs.Laws.{Spells}
use Rattle.protocols.specs.Reading.{parted, alone, reading, saving, resuming, asking, request_at}
use Rattle.protocols.specs.Requests.{Request, next, restart, tally, read, save, resume, most_size, most_job, Good, block_text, text_of}
use Rattle.protocols.specs.Values.{number_at, bytes_at}
use Rattle.items.proofs.Decimal.{clash}
use Rattle.protocols.proofs.Decimals.{number_is, is_number, decimal_without}
use Rattle.protocols.proofs.HexDigits.{bytes_are, are_bytes, hexed_above}
use Rattle.protocols.proofs.Parting.{parted_is, is_parted}

-- a request that some bytes spell
abbrev Spelt : List ℕ → Request → Type 0
Spelt l q = Good q × (l ≡ text_of q)

-- which way a choice went
chosen : {X : Type 0} (b : Bool) (x y z : X) → cond b x y ≡ z → ((b ≡ true) × (x ≡ z)) ⊎ ((b ≡ false) × (y ≡ z))
chosen true x y z e = inl (refl, e)
chosen false x y z e = inr (refl, e)

mapped_is : {X : Type 0} (f : X → Request) (o : Option X) (q : Request) → option_map f o ≡ Some q
    → (x : X) × ((o ≡ Some x) × (f x ≡ q))
mapped_is f None q e = clash q e
mapped_is f (Some x) q e = (x, (refl, cc))

word_is : (l w : List ℕ) → bytes_eq l w ≡ true → l ≡ w
word_is l w e = (bytes_eq-Decides l w).0 e

alone_is : (l : List ℕ) (q : Request) → alone l ≡ Some q → Spelt l q
alone_is l q e = elim (chosen (bytes_eq l (codes "next")) (Some next) _ _ e) [
  | inl h ↦ let same : next ≡ q = some h.1 in subst (λ x. Spelt l x) same (tt, word_is l (codes "next") h.0)
  | inr h ↦ elim (chosen (bytes_eq l (codes "restart")) (Some restart) _ _ h.1) [
    | inl i ↦ let same : restart ≡ q = some i.1 in subst (λ x. Spelt l x) same (tt, word_is l (codes "restart") i.0)
    | inr i ↦ elim (chosen (bytes_eq l (codes "tally")) (Some tally) _ _ i.1) [
      | inl j ↦ let same : tally ≡ q = some j.1 in subst (λ x. Spelt l x) same (tt, word_is l (codes "tally") j.0)
      | inr j ↦ clash q j.1
    ]
  ]
]
  where
    some : {x : Request} → Some x ≡ Some q → x ≡ q
    some f = cc

reading_is : (r : List ℕ) (q : Request) → reading r ≡ Some q → Spelt (codes "read " ++ r) q
reading_is r q e =
    let m = mapped_is read (number_at most_size r) q e in
    let n = number_is most_size r m.0 m.1.0 in
    subst (λ x. Spelt (codes "read " ++ r) x) m.1.1 (n.0, ap (λ ys. codes "read " ++ ys) n.1)

-- a job number, and what stands behind its space
by_job : {X : Type 0} → (ℕ → X → Request) → (List ℕ → Option X) → List ℕ → Option ℕ → Option Request
by_job f last b o = elim o [ None ↦ None | Some job ↦ option_map (f job) (last b) ]

by_parts : {X : Type 0} → (ℕ → X → Request) → (List ℕ → Option X) → Option (List ℕ × List ℕ) → Option Request
by_parts f last o = elim o [ None ↦ None | Some p ↦ by_job f last p.1 (number_at most_job p.0) ]

two_are : {X : Type 0} (f : ℕ → X → Request) (last : List ℕ → Option X) (r : List ℕ) (q : Request)
    → by_parts f last (parted 32 r) ≡ Some q
    → (job : ℕ) × ((x : X) × ((b : List ℕ) × ((job ≤ most_job) × (r ≡ decimal job ++ (32 ∷ b)) × (last b ≡ Some x) × (f job x ≡ q))))
unfolding by_job by_parts
two_are {X} f last r q e = go (parted 32 r) refl
  where
    Told : Type 0
    Told = (job : ℕ) × ((x : X) × ((b : List ℕ) × ((job ≤ most_job) × (r ≡ decimal job ++ (32 ∷ b)) × (last b ≡ Some x) × (f job x ≡ q))))

    by : (p : List ℕ × List ℕ) → parted 32 r ≡ Some p → (o : Option ℕ) → number_at most_job p.0 ≡ o → by_job f last p.1 o ≡ Some q → Told
    by p g None n d = clash q d
    by p g (Some job) n d =
        let m = mapped_is (f job) (last p.1) q d in
        let k = number_is most_job p.0 job n in
        (job, (m.0, (p.1, (k.0, parted_is 32 r p.0 p.1 g ∙ ap (λ ys. ys ++ (32 ∷ p.1)) k.1, m.1.0, m.1.1))))

    go : (o : Option (List ℕ × List ℕ)) → parted 32 r ≡ o → Told
    go None g = clash q (sym (ap (by_parts f last) g) ∙ e)
    go (Some p) g =
        by p g (number_at most_job p.0) refl (sym (ap (by_parts f last) g) ∙ e)

saving_is : (r : List ℕ) (q : Request) → saving r ≡ Some q → Spelt (codes "save " ++ r) q
unfolding by_job by_parts
saving_is r q e =
    let t = two_are save (number_at most_size) r q e in
    let job = t.0 in
    let told = t.1.1.1 in
    let n = number_is most_size t.1.1.0 t.1.0 told.2 in
    let le = told.0 in
    subst (λ x. Spelt (codes "save " ++ r) x) told.3
    ((omega arith, n.0), ap (λ ys. codes "save " ++ ys) (told.1 ∙ ap (λ ys. decimal job ++ (32 ∷ ys)) n.1))

resuming_is : (r : List ℕ) (q : Request) → resuming r ≡ Some q → Spelt (codes "resume " ++ r) q
unfolding by_job by_parts
resuming_is r q e =
    let t = two_are resume bytes_at r q e in
    let job = t.0 in
    let told = t.1.1.1 in
    let n = bytes_are t.1.1.0 t.1.0 told.2 in
    let le = told.0 in
    subst (λ x. Spelt (codes "resume " ++ r) x) told.3
    ((omega arith, n.0), ap (λ ys. codes "resume " ++ ys) (told.1 ∙ ap (λ ys. decimal job ++ (32 ∷ ys)) n.1))

asking_is : (w r : List ℕ) (q : Request) → asking w r ≡ Some q → Spelt (w ++ (32 ∷ r)) q
asking_is w r q e = elim (chosen (bytes_eq w (codes "read")) (reading r) _ _ e) [
  | inl h ↦ moved (codes "read") h.0 (reading_is r q h.1)
  | inr h ↦ elim (chosen (bytes_eq w (codes "save")) (saving r) _ _ h.1) [
    | inl i ↦ moved (codes "save") i.0 (saving_is r q i.1)
    | inr i ↦ elim (chosen (bytes_eq w (codes "resume")) (resuming r) _ _ i.1) [
      | inl j ↦ moved (codes "resume") j.0 (resuming_is r q j.1)
      | inr j ↦ clash q j.1
    ]
  ]
]
  where
    moved : (t : List ℕ) → bytes_eq w t ≡ true → Spelt (t ++ (32 ∷ r)) q → Spelt (w ++ (32 ∷ r)) q
    moved t h s = subst (λ x. Spelt (x ++ (32 ∷ r)) q) (sym (word_is w t h)) s

by_word : List ℕ → Option (List ℕ × List ℕ) → Option Request
by_word l o = elim o [ None ↦ alone l | Some p ↦ asking p.0 p.1 ]

pub request_alone : (l : List ℕ) → parted 32 l ≡ None → request_at l ≡ alone l
unfolding request_at by_word
request_alone l e = ap (by_word l) e

pub request_asking : (l w r : List ℕ) → parted 32 l ≡ Some (w, r) → request_at l ≡ asking w r
unfolding request_at by_word
request_asking l w r e = ap (by_word l) e

pub others_asked : (w r : List ℕ) → bytes_eq w (codes "read") ≡ false → bytes_eq w (codes "save") ≡ false
    → bytes_eq w (codes "resume") ≡ false → None ≡ asking w r
others_asked w r a b c =
    sym (cond-false _ (reading r) _ a ∙ cond-false _ (saving r) _ b ∙ cond-false _ (resuming r) None c)

request_is : (l : List ℕ) (q : Request) → request_at l ≡ Some q → Spelt l q
request_is l q e = go (parted 32 l) refl
  where
    go : (o : Option (List ℕ × List ℕ)) → parted 32 l ≡ o → Spelt l q
    go None f = alone_is l q (sym (request_alone l f) ∙ e)
    go (Some p) f =
        subst (λ x. Spelt x q) (sym (parted_is 32 l p.0 p.1 f)) (asking_is p.0 p.1 q (sym (request_asking l p.0 p.1 f) ∙ e))

-- ---- the other way: what is written is read

two_from : {X : Type 0} (f : ℕ → X → Request) (last : List ℕ → Option X) (job : ℕ) (x : X) (b : List ℕ)
    → job ≤ most_job → last b ≡ Some x → by_parts f last (parted 32 (decimal job ++ (32 ∷ b))) ≡ Some (f job x)
unfolding by_job by_parts
two_from f last job x b h e =
    ap (by_parts f last) (is_parted 32 (decimal job) b (decimal_without 32 job refl (omega arith)))
    ∙ ap (by_job f last b) (is_number most_job job (omega arith) (omega arith))
    ∙ ap (option_map (f job)) e

is_request : (q : Request) → Good q → request_at (text_of q) ≡ Some q
unfolding request_at parted by_job by_parts
is_request next h = refl
is_request restart h = refl
is_request tally h = refl
is_request (read size) h = ap (option_map read) (is_number most_size size h (omega arith))
is_request (save job size) h =
    two_from save (number_at most_size) job size (decimal size) h.0 (is_number most_size size h.1 (omega arith))
is_request (resume job bytes) h = two_from resume bytes_at job bytes (block_text bytes) h.0 (are_bytes bytes h.1)

pub spells : (l : List ℕ) → Spells l (request_at l)
spells l q = (λ e. request_is l q e, λ h. ap request_at h.1 ∙ is_request q h.0)

-- ---- no line break stands in a line

hex_without : (bs : List ℕ) → AllByRecursion (λ b. b ≢ 10) (block_text bs)
hex_without [] = (λ e. omega arith, tt)
hex_without (b ∷ bs) = All-weaker (λ c. 48 ≤ c) (λ c. c ≢ 10) (λ c h e. omega arith) (hexed (b ∷ bs)) (hexed_above (b ∷ bs))

two_without : (w : List ℕ) (job : ℕ) (b : List ℕ) → AllByRecursion (λ c. c ≢ 10) w → job ≤ most_job → AllByRecursion (λ c. c ≢ 10) b
    → AllByRecursion (λ c. c ≢ 10) (w ++ (decimal job ++ (32 ∷ b)))
two_without w job b hw h hb =
    All-append (λ c. c ≢ 10) w (decimal job ++ (32 ∷ b)) hw
    (All-append (λ c. c ≢ 10) (decimal job) (32 ∷ b) (decimal_without 10 job refl (omega arith)) (λ e. omega arith, hb))

abbrev all_other : List ℕ → Bool
all_other [] = true
all_other (c ∷ cs) = not (eqb c 10) && all_other cs

-- a word has none
plain_without : (w : List ℕ) → all_other w ≡ true → AllByRecursion (λ c. c ≢ 10) w
plain_without w e = (Decides-by_and (λ c. not (eqb c 10)) (λ c. c ≢ 10) all_other
    (λ c. Decides-not (eqb c 10) (Decides-eqb c 10)) refl (λ _ _. refl) w).0 e

pub text_without : (q : Request) → Good q → AllByRecursion (λ c. c ≢ 10) (text_of q)
text_without next h = plain_without (codes "next") refl
text_without restart h = plain_without (codes "restart") refl
text_without tally h = plain_without (codes "tally") refl
text_without (read size) h =
    All-append (λ c. c ≢ 10) (codes "read ") (decimal size) (plain_without (codes "read ") refl) (decimal_without 10 size refl (omega arith))
text_without (save job size) h =
    let small = h.1 in
    two_without (codes "save ") job (decimal size) (plain_without (codes "save ") refl) h.0 (decimal_without 10 size refl (omega arith))
text_without (resume job bytes) h =
    two_without (codes "resume ") job (block_text bytes) (plain_without (codes "resume ") refl) h.0 (hex_without bytes)

pub spelled : (l : List ℕ) (o : Option Request) → o ≡ request_at l → Spells l o
spelled l o e = subst (λ x. Spells l x) (sym e) (spells l)
