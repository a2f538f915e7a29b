-- A step by word operations is the exchange of two diagonals.
use Rattle.std.proofs.Common.{◌≡◌, ℕ, ◌-◌, ◌^◌, ◌<◌, ◌≤◌, min, max, true, ◌⊎◌, List, length, get_or, Some, sym, refl, ap, ◌∙◌, subst, inl, inr, lt_of_lt_of_le, lt_of_le_of_lt, arith, pow_mono}
use lib.Bits.{bit_and, and_le_l}
use lib.Count.{count_trailing_zeros}
use Rattle.std.proofs.lemmas.Bool.{cases_order}
use Rattle.digits.proofs.Digits.{bit-and, bit_small}
use Rattle.digits.specs.Bits.{bit}
use Rattle.pairs.specs.Pairs.{number, corners_of}
use Rattle.triangulations.proofs.Apexes.{Within, replacement_is, inside_only, outside_only, beyond_corner}
use Rattle.triangulations.proofs.Corners.{Below, Beyond, below, above}
use Rattle.triangulations.proofs.Deciding.{triangulation_decides}
use Rattle.triangulations.proofs.Drawing.{Small, member_edge, corners_pair, drawing}
use Rattle.triangulations.proofs.Drawings.{Drawn}
use Rattle.triangulations.proofs.Edges.{Inner, inner, diagonal_numbered, joined_up, joined_down, joined_self}
use Rattle.triangulations.proofs.Neighbours.{Neighbour, neighbour, nothing_past}
use Rattle.triangulations.specs.Moves.{edge, joined, replacement, exchanged}
use Rattle.triangulations.specs.Objects.{is_triangulation}
use Rattle.triangulations.specs.Polygon.{Diagonal}
use Rattle.triangulations.specs.Textbook.{PairSet, Triangulation}
use Rattle.polygon.proofs.Crossings.{row_limit}
use Rattle.polygon.proofs.Ties.{Kept, turned, exchanged_turned, switch_tied, set_of_is, length_switched}
use Rattle.polygon.proofs.Words.{bit_positive, low_is, high_is}
use Rattle.polygon.specs.Rows.{linked, Tied, set_of, common, two_lowest, switched}

-- what the rows of a triangulation are known to be
pub record Settled (n : ℕ) (S : PairSet) (rows : List ℕ) : Type 0 where
  pub same : set_of n rows ≡ S
  pub whole : is_triangulation n (set_of n rows) ≡ true
  pub tied : Tied n (set_of n rows) rows

pub settled : (n : ℕ) (S : PairSet) (rows : List ℕ) → Small S → Triangulation n S → Tied n S rows → Settled n S rows
settled n S rows small t tie =
    record {
      same = same;
      whole = ap (is_triangulation n) same ∙ (triangulation_decides n S small (λ e h. nothing_past n S small t.only_diagonals e (omega arith))).1 t;
      tied = subst (λ (T : PairSet). Tied n T rows) (sym same) tie;
    }
  where
    same : set_of n rows ≡ S
    same = set_of_is n S rows small t.only_diagonals tie

module _ (n : ℕ) (S : PairSet) (rows : List ℕ) (k : Kept n S rows) (e : ℕ) (m : S e ≡ 1) where
  open k use {large, few, small, triangulation as t, tied as tie}

  g : Drawn n (edge n S)
  g = drawing n S large few small t

  d : Diagonal n (corners_of e)
  d = t.only_diagonals e m

  i : Inner n (corners_of e).0 (corners_of e).1
  i = inner n (corners_of e) d

  f : edge n S (corners_of e).0 (corners_of e).1 ≡ 1
  f = member_edge n S t.only_diagonals e m

  under : Below (edge n S) (corners_of e).0 (corners_of e).1
  under = below n (edge n S) g (corners_of e).0 (corners_of e).1 f i.wide

  in-corner : ℕ
  in-corner = under.corner

  within : Within (edge n S) (corners_of e).0 (corners_of e).1 in-corner
  unfolding in-corner
  within = (under.left, under.right, under.from, under.to)

  over : (c : ℕ) × Beyond (edge n S) (corners_of e).0 (corners_of e).1 c
  over = above n (edge n S) g (corners_of e).0 (corners_of e).1 f i.cut

  out-corner : ℕ
  out-corner = over.0

  beyond-it : Beyond (edge n S) (corners_of e).0 (corners_of e).1 out-corner
  unfolding out-corner
  beyond-it = over.1

  word-digit : (c : ℕ) → bit (common rows (corners_of e).0 (corners_of e).1) c ≡ min (joined n S (corners_of e).0 c) (joined n S (corners_of e).1 c)
  word-digit c =
      bit-and (get_or rows (corners_of e).0 0) (get_or rows (corners_of e).1 0) c ∙ ap (λ (x : ℕ). min x (linked rows (corners_of e).1 c)) (tie (corners_of e).0 c)
      ∙ ap (λ (x : ℕ). min (joined n S (corners_of e).0 c) x) (tie (corners_of e).1 c)

  word-limit : common rows (corners_of e).0 (corners_of e).1 < 2 ^ 32
  word-limit =
      lt_of_lt_of_le
      (lt_of_le_of_lt (and_le_l (get_or rows (corners_of e).0 0) (get_or rows (corners_of e).1 0)) (row_limit n S rows few tie (corners_of e).0))
      (pow_mono {i = n} {j = 32} (omega arith))

  -- the digits of the word are the two corners
  in-digit : (c : ℕ) → Within (edge n S) (corners_of e).0 (corners_of e).1 c → bit (common rows (corners_of e).0 (corners_of e).1) c ≡ 1
  in-digit c w =
      omega
      (arith, word-digit c, joined_up n S (corners_of e).0 c w.0, joined_down n S (corners_of e).1 c w.1, w.2, w.3)

  out-digit : (c : ℕ) → Beyond (edge n S) (corners_of e).0 (corners_of e).1 c → bit (common rows (corners_of e).0 (corners_of e).1) c ≡ 1
  out-digit c (inl w) =
      omega
      (arith, word-digit c, joined_down n S (corners_of e).0 c w.0, joined_down n S (corners_of e).1 c (omega (arith, d.0)), w.1, w.2)
  out-digit c (inr w) =
      omega
      (arith, word-digit c, joined_up n S (corners_of e).0 c (omega (arith, d.0)), joined_up n S (corners_of e).1 c w.0, w.1, w.2)

  -- a digit of the word is joined to both corners
  joined-both : (c : ℕ) → bit (common rows (corners_of e).0 (corners_of e).1) c ≡ 1
      → (joined n S (corners_of e).0 c ≡ 1) × (joined n S (corners_of e).1 c ≡ 1)
  joined-both c o = (
    omega (arith, word-digit c, small_at (corners_of e).0, small_at (corners_of e).1),
    omega (arith, word-digit c, small_at (corners_of e).0, small_at (corners_of e).1),
  )
    where
      small_at : (x : ℕ) → joined n S x c ≤ 1
      small_at x = omega (arith, tie x c, bit_small (get_or rows x 0) c)

  digit-corner : (c : ℕ) → bit (common rows (corners_of e).0 (corners_of e).1) c ≡ 1 → (c ≡ in-corner) ⊎ (c ≡ out-corner)
  digit-corner c o = go (cases_order c (corners_of e).0) (cases_order c (corners_of e).1)
    where
      to-first : joined n S (corners_of e).0 c ≡ 1
      to-first = (joined-both c o).0

      to-second : joined n S (corners_of e).1 c ≡ 1
      to-second = (joined-both c o).1

      go : (c ≡ (corners_of e).0) ⊎ ((c < (corners_of e).0) ⊎ ((corners_of e).0 < c)) → (c ≡ (corners_of e).1) ⊎ ((c < (corners_of e).1) ⊎ ((corners_of e).1 < c))
          → (c ≡ in-corner) ⊎ (c ≡ out-corner)
      go (inl h) k = absurd (omega (arith, ap (joined n S (corners_of e).0) h, joined_self n S (corners_of e).0, to-first))
      go (inr h) (inl k) = absurd (omega (arith, ap (joined n S (corners_of e).1) k, joined_self n S (corners_of e).1, to-second))
      go (inr (inl h)) (inr k) =
          inr
          (outside_only n S g (corners_of e) f c out-corner
          (inl (h, sym (joined_down n S (corners_of e).0 c h) ∙ to-first, sym (joined_down n S (corners_of e).1 c (omega (arith, d.0))) ∙ to-second)) beyond-it)
      go (inr (inr h)) (inr (inl k)) =
          inl
          (inside_only n S g (corners_of e) f c in-corner
          (h, k, sym (joined_up n S (corners_of e).0 c h) ∙ to-first, sym (joined_down n S (corners_of e).1 c k) ∙ to-second) within)
      go (inr (inr h)) (inr (inr k)) =
          inr
          (outside_only n S g (corners_of e) f c out-corner
          (inr (k, sym (joined_up n S (corners_of e).0 c h) ∙ to-first, sym (joined_up n S (corners_of e).1 c k) ∙ to-second)) beyond-it)

  pub word_positive : 0 < common rows (corners_of e).0 (corners_of e).1
  word_positive = bit_positive (common rows (corners_of e).0 (corners_of e).1) in-corner (in-digit in-corner within)

  -- so the two lowest digits are the two corners, in order
  pub record Found (low high : ℕ) : Type 0 where
    pub ascending : low < high
    pub in_polygon : high < n
    pub replaces : replacement n S e ≡ Some (number low high)

  apart : (in-corner ≡ out-corner) → ⊥
  unfolding in-corner out-corner
  apart q = go over.1
    where
      go : Beyond (edge n S) (corners_of e).0 (corners_of e).1 over.0 → ⊥
      go (inl w) = omega (arith, under.left)
      go (inr w) = omega (arith, under.right)

  in-below : in-corner < n
  unfolding in-corner
  in-below = omega (arith, under.right, i.within)

  out_below : out-corner < n
  out_below = beyond_corner n S g (corners_of e) f out-corner beyond-it

  pub corners_found : Found (two_lowest (common rows (corners_of e).0 (corners_of e).1)).0 (two_lowest (common rows (corners_of e).0 (corners_of e).1)).1
  corners_found = go (cases_order in-corner out-corner)
    where
      s : ℕ
      s = common rows (corners_of e).0 (corners_of e).1

      is : replacement n S e ≡ Some (number (min in-corner out-corner) (max in-corner out-corner))
      is = replacement_is n S g e (corners_of e).0 (corners_of e).1 refl f in-corner out-corner within beyond-it

      made : (p q : ℕ) → p < q → q < n → replacement n S e ≡ Some (number p q) → count_trailing_zeros 32 s ≡ p → count_trailing_zeros 32 (bit_and s (s - 1)) ≡ q
          → Found (count_trailing_zeros 32 s) (count_trailing_zeros 32 (bit_and s (s - 1)))
      made p q h l r a b =
          record {
            ascending = omega arith;
            in_polygon = omega arith;
            replaces = r ∙ ap (λ (x : ℕ). Some (number x q)) (sym a) ∙ ap (λ (x : ℕ). Some (number (count_trailing_zeros 32 s) x)) (sym b);
          }

      turn : (c : ℕ) → bit s c ≡ 1 → (c ≡ out-corner) ⊎ (c ≡ in-corner)
      turn c o = elim (digit-corner c o) [ inl x ↦ inr x | inr x ↦ inl x ]

      go : (in-corner ≡ out-corner) ⊎ ((in-corner < out-corner) ⊎ (out-corner < in-corner)) → Found (count_trailing_zeros 32 s) (count_trailing_zeros 32 (bit_and s (s - 1)))
      go (inl q) = absurd (apart q)
      go (inr (inl q)) =
          let lo : min in-corner out-corner ≡ in-corner = omega arith in
          let hi : max in-corner out-corner ≡ out-corner = omega arith in
          made in-corner out-corner q out_below
          (is ∙ ap (λ (x : ℕ). Some (number x (max in-corner out-corner))) lo ∙ ap (λ (x : ℕ). Some (number in-corner x)) hi)
          (low_is s in-corner out-corner word-limit q (in-digit in-corner within) (out-digit out-corner beyond-it) digit-corner)
          (high_is s in-corner out-corner word-limit q (in-digit in-corner within) (out-digit out-corner beyond-it) digit-corner)
      go (inr (inr q)) =
          let lo : min in-corner out-corner ≡ out-corner = omega arith in
          let hi : max in-corner out-corner ≡ in-corner = omega arith in
          made out-corner in-corner q in-below
          (is ∙ ap (λ (x : ℕ). Some (number x (max in-corner out-corner))) lo ∙ ap (λ (x : ℕ). Some (number out-corner x)) hi)
          (low_is s out-corner in-corner word-limit q (out-digit out-corner beyond-it) (in-digit in-corner within) turn)
          (high_is s out-corner in-corner word-limit q (out-digit out-corner beyond-it) (in-digit in-corner within) turn)

  -- the rows after the step
  module _ (low high : ℕ) (found : Found low high) (long : length rows ≡ 24) where
    near : Neighbour n S e (number low high)
    near = neighbour n S large few small t e m (number low high) found.replaces

    new_diagonal : Diagonal n (low, high)
    new_diagonal =
        subst (λ (x : ℕ × ℕ). Diagonal n x) (corners_pair n S few low high found.ascending found.in_polygon)
        (near.triangulation.only_diagonals (number low high) near.member)

    tied-once : Tied n (turned S e) (switched rows (corners_of e).0 (corners_of e).1)
    tied-once =
        subst (λ (x : ℕ). Tied n (turned S x) (switched rows (corners_of e).0 (corners_of e).1)) (diagonal_numbered n e d).1
        (switch_tied n S rows (corners_of e).0 (corners_of e).1 few long d tie)

    long-once : length (switched rows (corners_of e).0 (corners_of e).1) ≡ 24
    long-once =
        length_switched rows (corners_of e).0 (corners_of e).1 (omega (arith, d.0, d.1)) (omega (arith, d.1)) (λ q. omega (arith, d.0)) ∙ long

    pub stepped_rows : Settled n (exchanged S e (number low high)) (switched (switched rows (corners_of e).0 (corners_of e).1) low high)
    stepped_rows =
        settled n (exchanged S e (number low high)) (switched (switched rows (corners_of e).0 (corners_of e).1) low high) near.small near.triangulation
        (subst (λ (T : PairSet). Tied n T (switched (switched rows (corners_of e).0 (corners_of e).1) low high))
        (exchanged_turned S e (number low high) m near.fresh)
        (switch_tied n (turned S e) (switched rows (corners_of e).0 (corners_of e).1) low high few long-once new_diagonal tied-once))

  -- ---- as the code goes, with the corners r of the pair and the two corners q that it finds

  module _ (r : ℕ × ℕ) (at : r ≡ corners_of e) where
    module _ (q : ℕ × ℕ) (lowest : q ≡ two_lowest (common rows r.0 r.1)) where
      pub apexes_found : Found q.0 q.1
      apexes_found =
          let same = lowest ∙ ap (λ (p : ℕ × ℕ). two_lowest (common rows p.0 p.1)) at in
          subst (λ (p : ℕ × ℕ). Found p.0 p.1) (sym same) corners_found

      pub apexes_small : (q.0 < 24) × (q.1 < 24)
      apexes_small = (omega (arith, apexes_found.ascending, apexes_found.in_polygon), omega (arith, apexes_found.in_polygon))

      pub after_step : (once twice : List ℕ) → once ≡ switched rows r.0 r.1 → twice ≡ switched once q.0 q.1 → length rows ≡ 24
          → Settled n (exchanged S e (number q.0 q.1)) twice
      after_step once twice f₁ f₂ long =
          let same = f₂ ∙ ap (λ (t : List ℕ). switched t q.0 q.1) (f₁ ∙ ap (λ (p : ℕ × ℕ). switched rows p.0 p.1) at) in
          subst (λ (t : List ℕ). Settled n (exchanged S e (number q.0 q.1)) t) (sym same) (stepped_rows q.0 q.1 apexes_found long)
