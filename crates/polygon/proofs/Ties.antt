-- Rows and sets of pairs.
use Rattle.std.proofs.Common.{◌≡◌, ℕ, ◌-◌, ◌^◌, ◌<◌, ◌≤◌, Bool, true, false, cond, eqb, ◌⊎◌, List, length, get_or, sym, refl, ap, ◌∙◌, inl, inr, arith}
use mathlib.Core.Path.{fun_ext}
use lib.Bits.{bit_xor}
use Rattle.std.proofs.lemmas.List.{get_or-set_same, get_or-set_other, length-set}
use Rattle.std.proofs.lemmas.Bool.{cases_eq, cond-true, cond-false, eq-eqb, ne_eqb}
use Rattle.digits.proofs.Digits.{flip_same, flip_other}
use Rattle.digits.specs.Bits.{bit}
use Rattle.pairs.proofs.Numbers.{number_once}
use Rattle.pairs.specs.Pairs.{number, corners_of}
use Rattle.triangulations.proofs.Drawing.{Small}
use Rattle.triangulations.proofs.Drawings.{digit_cases}
use Rattle.triangulations.proofs.Edges.{Kind, kind, a_side, a_diagonal, no_pair, edge_side, edge_member, edge_none, diagonal_numbered, joined_up, joined_down}
use Rattle.triangulations.proofs.Exchanges.{Is, is_or_not}
use Rattle.triangulations.proofs.Tests.{diagonal_decides}
use Rattle.triangulations.proofs.Swaps.{Place, place, gone, come, kept}
use Rattle.triangulations.specs.Moves.{edge, joined, exchanged}
use Rattle.triangulations.specs.Polygon.{Diagonal, is_diagonal}
use Rattle.triangulations.specs.Textbook.{PairSet, Triangulation}
use Rattle.polygon.specs.Rows.{linked, Tied, set_of, half_switched, switched}

-- ---- the set with pair e put in or taken out

pub turned : PairSet → ℕ → PairSet
turned S e x = cond (eqb x e) (1 - S x) (S x)

pub turned_here : (S : PairSet) (e x : ℕ) → x ≡ e → turned S e x ≡ 1 - S x
unfolding turned
turned_here S e x h = cond-true (eqb x e) (1 - S x) (S x) (eq-eqb x e h)

pub turned_else : (S : PairSet) (e x : ℕ) → (x ≡ e → ⊥) → turned S e x ≡ S x
unfolding turned
turned_else S e x h = cond-false (eqb x e) (1 - S x) (S x) (ne_eqb x e h)

-- one pair for another is two turns
pub exchanged_turned : (S : PairSet) (e f : ℕ) → S e ≡ 1 → S f ≡ 0 → turned (turned S e) f ≡ exchanged S e f
exchanged_turned S e f p q = fun_ext (λ x. go x (place S e f x) (cases_eq x f))
  where
    go : (x : ℕ) → Place S e f x → (x ≡ f) ⊎ (x ≡ f → ⊥) → turned (turned S e) f x ≡ exchanged S e f x
    go x (gone h v) (inl k) = absurd (omega (arith, ap S h, ap S k))
    go x (gone h v) (inr k) = turned_else (turned S e) f x k ∙ turned_here S e x h ∙ omega (arith, ap S h) ∙ sym v
    go x (come h v) k =
        turned_here (turned S e) f x h
        ∙ ap (λ (y : ℕ). 1 - y) (turned_else S e x (λ z. omega (arith, ap S h, ap S z)))
        ∙ omega (arith, ap S h) ∙ sym v
    go x (kept h k v) _ = turned_else (turned S e) f x k ∙ turned_else S e x h ∙ sym v

-- ---- its edges

module _ (n : ℕ) (S : PairSet) (a b : ℕ) (d : Diagonal n (a, b)) where
  edge_here : edge n (turned S (number a b)) a b ≡ 1 - edge n S a b
  edge_here =
      edge_member n (turned S (number a b)) a b d ∙ turned_here S (number a b) (number a b) refl
      ∙ ap (λ (x : ℕ). 1 - x) (sym (edge_member n S a b d))

  edge-else : (x y : ℕ) → (Is x y a b → ⊥) → edge n (turned S (number a b)) x y ≡ edge n S x y
  edge-else x y h = go (kind n x y)
    where
      go : Kind n x y → edge n (turned S (number a b)) x y ≡ edge n S x y
      go (a_side l m s) = edge_side n (turned S (number a b)) x y l m s ∙ sym (edge_side n S x y l m s)
      go (no_pair l) = edge_none n (turned S (number a b)) x y l ∙ sym (edge_none n S x y l)
      go (a_diagonal k) =
          edge_member n (turned S (number a b)) x y k
          ∙ turned_else S (number a b) (number x y) (λ m. h (number_once x y a b k.0 d.0 m))
          ∙ sym (edge_member n S x y k)

  joined-there : joined n (turned S (number a b)) a b ≡ 1 - joined n S a b
  joined-there =
      joined_up n (turned S (number a b)) a b d.0 ∙ edge_here ∙ ap (λ (x : ℕ). 1 - x) (sym (joined_up n S a b d.0))

  joined_back : joined n (turned S (number a b)) b a ≡ 1 - joined n S b a
  joined_back =
      joined_down n (turned S (number a b)) b a d.0 ∙ edge_here ∙ ap (λ (x : ℕ). 1 - x) (sym (joined_down n S b a d.0))

  joined-else : (x y : ℕ) → (Is x y a b → ⊥) → (Is y x a b → ⊥) → joined n (turned S (number a b)) x y ≡ joined n S x y
  unfolding joined
  joined-else x y h k = omega (arith, edge-else x y h, edge-else y x k)

-- ---- its rows

module _ (rows : List ℕ) (a b : ℕ) (la : a < length rows) (lb : b < length rows) (apart : a ≡ b → ⊥) where
  pub length_switched : length (switched rows a b) ≡ length rows
  unfolding switched
  length_switched =
      let u = half_switched rows a b in
      length-set u b (bit_xor (get_or u b 0) (2 ^ a)) ∙ length-set rows a (bit_xor (get_or rows a 0) (2 ^ b))

  lu : b < length (half_switched rows a b)
  lu = omega (arith, length-set rows a (bit_xor (get_or rows a 0) (2 ^ b)))

  row-else : (t : List ℕ) (c x y : ℕ) → (x ≡ c → ⊥) → (z : ℕ) → linked (half_switched t c z) x y ≡ linked t x y
  row-else t c x y h z = ap (λ (r : ℕ). bit r y) (get_or-set_other t c x (bit_xor (get_or t c 0) (2 ^ z)) 0 h)

  row_here : (t : List ℕ) (c z : ℕ) → c < length t → (y : ℕ) → linked (half_switched t c z) c y ≡ bit (bit_xor (get_or t c 0) (2 ^ z)) y
  row_here t c z l y = ap (λ (r : ℕ). bit r y) (get_or-set_same t c (bit_xor (get_or t c 0) (2 ^ z)) 0 l)

  linked-there : linked (switched rows a b) a b ≡ 1 - linked rows a b
  unfolding switched
  linked-there = row-else (half_switched rows a b) b a b apart a ∙ row_here rows a b la b ∙ flip_same (get_or rows a 0) b

  linked-back : linked (switched rows a b) b a ≡ 1 - linked rows b a
  unfolding switched
  linked-back =
      row_here (half_switched rows a b) b a lu a ∙ flip_same (get_or (half_switched rows a b) b 0) a
      ∙ ap (λ (x : ℕ). 1 - x) (row-else rows a b a (λ e. apart (sym e)) b)

  linked-else : (x y : ℕ) → (Is x y a b → ⊥) → (Is y x a b → ⊥) → linked (switched rows a b) x y ≡ linked rows x y
  unfolding switched
  linked-else x y h k = go (cases_eq x a) (cases_eq x b)
    where
      u : List ℕ
      u = half_switched rows a b

      go : (x ≡ a) ⊎ (x ≡ a → ⊥) → (x ≡ b) ⊎ (x ≡ b → ⊥) → linked (half_switched u b a) x y ≡ linked rows x y
      go (inl p) (inl q) = absurd (apart (sym p ∙ q))
      go (inl p) (inr q) =
          row-else u b x y q a ∙ ap (λ (z : ℕ). linked u z y) p ∙ row_here rows a b la y
          ∙ flip_other (get_or rows a 0) b y (λ e. h (p, e)) ∙ ap (λ (z : ℕ). linked rows z y) (sym p)
      go (inr p) (inl q) =
          ap (λ (z : ℕ). linked (half_switched u b a) z y) q ∙ row_here u b a lu y
          ∙ flip_other (get_or u b 0) a y (λ e. k (e, q)) ∙ row-else rows a b y (λ e. apart (sym e)) b
          ∙ ap (λ (z : ℕ). linked rows z y) (sym q)
      go (inr p) (inr q) = row-else u b x y q a ∙ row-else rows a x y p b

-- switching the rows turns the pair
pub switch_tied : (n : ℕ) (S : PairSet) (rows : List ℕ) (a b : ℕ) → n ≤ 24 → length rows ≡ 24 → Diagonal n (a, b) → Tied n S rows
    → Tied n (turned S (number a b)) (switched rows a b)
switch_tied n S rows a b few long d tie x y = go (is_or_not x y a b) (is_or_not y x a b)
  where
    la : a < length rows
    la = omega (arith, d.0, d.1)

    lb : b < length rows
    lb = omega (arith, d.1)

    apart : a ≡ b → ⊥
    apart e = omega (arith, d.0)

    T : PairSet
    T = turned S (number a b)

    go : Is x y a b ⊎ (Is x y a b → ⊥) → Is y x a b ⊎ (Is y x a b → ⊥) → linked (switched rows a b) x y ≡ joined n T x y
    go (inl p) q =
        ap (λ (z : ℕ). linked (switched rows a b) z y) p.0 ∙ ap (λ (z : ℕ). linked (switched rows a b) a z) p.1
        ∙ linked-there rows a b la lb apart ∙ ap (λ (z : ℕ). 1 - z) (tie a b) ∙ sym (joined-there n S a b d)
        ∙ sym (ap (λ (z : ℕ). joined n T z y) p.0 ∙ ap (λ (z : ℕ). joined n T a z) p.1)
    go (inr p) (inl q) =
        ap (λ (z : ℕ). linked (switched rows a b) z y) q.1 ∙ ap (λ (z : ℕ). linked (switched rows a b) b z) q.0
        ∙ linked-back rows a b la lb apart ∙ ap (λ (z : ℕ). 1 - z) (tie b a) ∙ sym (joined_back n S a b d)
        ∙ sym (ap (λ (z : ℕ). joined n T z y) q.1 ∙ ap (λ (z : ℕ). joined n T b z) q.0)
    go (inr p) (inr q) = linked-else rows a b la lb apart x y p q ∙ tie x y ∙ sym (joined-else n S a b d x y p q)

-- the diagonals of the rows of a set of diagonals are the set
pub set_of_is : (n : ℕ) (S : PairSet) (rows : List ℕ) → Small S → ((e : ℕ) → S e ≡ 1 → Diagonal n (corners_of e)) → Tied n S rows → set_of n rows ≡ S
unfolding set_of
set_of_is n S rows small only tie = fun_ext (λ e. go e (is_diagonal n (corners_of e)) refl)
  where
    go : (e : ℕ) (t : Bool) → is_diagonal n (corners_of e) ≡ t → cond (is_diagonal n (corners_of e)) (linked rows (corners_of e).0 (corners_of e).1) 0 ≡ S e
    go e true h =
        let d = (diagonal_decides n (corners_of e)).0 h in
        cond-true (is_diagonal n (corners_of e)) (linked rows (corners_of e).0 (corners_of e).1) 0 h
        ∙ tie (corners_of e).0 (corners_of e).1 ∙ joined_up n S (corners_of e).0 (corners_of e).1 d.0
        ∙ edge_member n S (corners_of e).0 (corners_of e).1 d ∙ ap S (diagonal_numbered n e d).1
    go e false h =
        cond-false (is_diagonal n (corners_of e)) (linked rows (corners_of e).0 (corners_of e).1) 0 h ∙ sym (out (digit_cases (S e) (small e)))
      where
        out : (S e ≡ 0) ⊎ (S e ≡ 1) → S e ≡ 0
        out (inl z) = z
        out (inr o) = absurd (clash (sym ((diagonal_decides n (corners_of e)).1 (only e o)) ∙ h))
          where
            clash : true ≡ false → ⊥
            clash q = let z : ◌≡◌ {A = ℕ} 0 1 = cc in omega arith

-- What is known of the rows of a polygon and of the set that they stand for.
pub record Kept (n : ℕ) (S : PairSet) (rows : List ℕ) : Type 0 where
  pub large : 3 ≤ n
  pub few : n ≤ 24
  pub small : Small S
  pub triangulation : Triangulation n S
  pub tied : Tied n S rows
