-- Lines and pages, one after another.
use Rattle.std.proofs.Common.{◌≡◌, ℕ, zero, suc, ◌+◌, ◌≤◌, List, [], ◌∷◌, ◌++◌, length, take, drop, sym, refl, ap, ◌∙◌, ap₂, append_assoc, arith, length-drop}
use Rattle.std.proofs.lemmas.List.{append-nil, drop-drop, take-append-drop, take_all, drop_all}
use Rattle.std.specs.List.{concat}
use Rattle.pages.specs.Turns.{turned, pages}

abbrev Lines : Type 0
Lines = List (List ℕ)

pub joined_append : (xs ys : Lines) → concat (xs ++ ys) ≡ concat xs ++ concat ys
joined_append [] ys = refl
joined_append (x ∷ xs) ys = ap (λ t. x ++ t) (joined_append xs ys) ∙ sym (append_assoc x (concat xs) (concat ys))

-- k lines more
take_next : (k n : ℕ) (left : Lines) → take (n + k) left ≡ take n left ++ take k (drop n left)
take_next k zero left = let e : 0 + k ≡ k = omega arith in ap (λ m. take m left) e
take_next k (suc n) [] =
    let e : suc n + k ≡ suc (n + k) = omega arith in
    ap (λ m. take {A = List ℕ} m []) e ∙ sym (none k)
  where
    none : (m : ℕ) → take {A = List ℕ} m [] ≡ []
    none zero = refl
    none (suc m) = refl
take_next k (suc n) (x ∷ left) =
    let e : suc n + k ≡ suc (n + k) = omega arith in
    ap (λ m. take m (x ∷ left)) e ∙ ap (λ t. x ∷ t) (take_next k n left)

pub turned_more : (k n : ℕ) (bytes : List ℕ) (left : Lines) → turned k (turned n bytes left).0 (turned n bytes left).1 ≡ turned (n + k) bytes left
turned_more k n bytes left =
    ap₂ (λ a b. (a, b))
    (append_assoc bytes (concat (take n left)) (concat (take k (drop n left)))
    ∙ ap (λ t. bytes ++ t) (sym (joined_append (take n left) (take k (drop n left))) ∙ ap concat (sym (take_next k n left))))
    (drop-drop k n left)

pub turned_none : (bytes : List ℕ) (left : Lines) → (bytes, left) ≡ turned 0 bytes left
turned_none bytes left = ap (λ t. (t, left)) (sym (append-nil bytes))

-- with no line left, more turns change nothing
pub turned_all : (k n : ℕ) (bytes : List ℕ) (left : Lines) → drop k left ≡ [] → k ≤ n → turned k bytes left ≡ turned n bytes left
turned_all k n bytes left e le =
    let h = length-drop k left in
    let z = ap length e in
    let a : length left ≤ k = omega arith in
    let b : length left ≤ n = omega arith in
    ap₂ (λ t d. (bytes ++ concat t, d)) (take_all k left a ∙ sym (take_all n left b)) (e ∙ sym (drop_all n left b))

pub pages_join : (limits : List ℕ) (lines : Lines) → (pages limits lines).1 ≡ [] → (pages limits lines).0 ≡ concat lines
unfolding pages
pages_join [] lines e = sym (ap concat e)
pages_join (k ∷ ks) lines e =
    ap (λ t. concat (take k lines) ++ t) (pages_join ks (drop k lines) e)
    ∙ sym (joined_append (take k lines) (drop k lines))
    ∙ ap concat (take-append-drop k lines)

-- all lines, once none is left
pub turned_whole : (n : ℕ) (bytes out : List ℕ) (rest left : Lines) → length left ≤ n → (out, rest) ≡ turned n bytes left → out ≡ bytes ++ concat left
turned_whole n bytes out rest left le e = ap (λ x. x.0) e ∙ ap (λ t. bytes ++ concat t) (take_all n left le)
