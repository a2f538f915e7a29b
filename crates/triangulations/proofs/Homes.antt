-- The home slot is that of the first gap of corner 0.
use Rattle.std.proofs.Common.{◌≡◌, ℕ, ◌+◌, ◌-◌, ◌<◌, ◌≤◌, Bool, true, false, ◌&&◌, eqb, ltb, ◌⊎◌, Some, None, Decides, sym, refl, ap, ◌∙◌, subst, inl, inr, arith}
use Rattle.std.proofs.lemmas.Bool.{cases_order, cases_lt, both_ways}
use Rattle.std.proofs.lemmas.Bool.Decides.{Decides-eqb, Decides-ltb, Decides-and, Decides-like}
use Rattle.masks.proofs.Pick.{least_is}
use Rattle.pairs.specs.Pairs.{number, corners_of, pair_count}
use Rattle.pairs.proofs.Numbers.{number_below, number_later}
use Rattle.triangulations.specs.Moves.{edge, joined, leads_home, home_slot}
use Rattle.triangulations.specs.Polygon.{Diagonal}
use Rattle.triangulations.specs.Statements.{Smallest}
use Rattle.triangulations.specs.Textbook.{PairSet, Triangulation, LeadsHome}
use Rattle.triangulations.proofs.Deciding.{diagonal_below}
use Rattle.triangulations.proofs.Drawing.{Small, member_edge, corners_pair, drawing}
use Rattle.triangulations.proofs.Drawings.{Drawn}
use Rattle.triangulations.proofs.Edges.{Inner, inner, diagonal_from, diagonal_numbered, edge_member, joined_up}
use Rattle.triangulations.proofs.Gaps.{Gap, Full, gap_closed, gap_after, full_fan}
use Rattle.triangulations.proofs.Searches.{Found, Nowhere, least_cases, some_is, some_not_none, least_first}
use Rattle.triangulations.proofs.Words.{pair_at, corners_at, edge_from, side_or_member}

-- pair e is a member away from corner 0, and its corners are joined to corner 0
pub record Homeward (n : ℕ) (S : PairSet) (e : ℕ) : Type 0 where
  pub member : S e ≡ 1
  pub away : 0 < (corners_of e).0
  pub first : edge n S 0 (corners_of e).0 ≡ 1
  pub second : edge n S 0 (corners_of e).1 ≡ 1

module _ (n : ℕ) (S : PairSet) (only : (e : ℕ) → S e ≡ 1 → Diagonal n (corners_of e)) (e : ℕ) where
  pub homeward_decides : Decides (leads_home n S e) (Homeward n S e)
  unfolding leads_home
  homeward_decides =
      Decides-like
      (eqb (S e) 1 && (ltb 0 (corners_of e).0 && (eqb (joined n S 0 (corners_of e).0) 1 && eqb (joined n S 0 (corners_of e).1) 1)))
      to from
      (Decides-and (eqb (S e) 1) _ (Decides-eqb (S e) 1)
      (Decides-and (ltb 0 (corners_of e).0) _ (Decides-ltb 0 (corners_of e).0)
      (Decides-and (eqb (joined n S 0 (corners_of e).0) 1) (eqb (joined n S 0 (corners_of e).1) 1)
      (Decides-eqb (joined n S 0 (corners_of e).0) 1) (Decides-eqb (joined n S 0 (corners_of e).1) 1))))
    where
      to : (S e ≡ 1) × ((0 < (corners_of e).0) × ((joined n S 0 (corners_of e).0 ≡ 1) × (joined n S 0 (corners_of e).1 ≡ 1))) → Homeward n S e
      to w =
          let up = (only e w.0).0 in
          record {
            member = w.0;
            away = w.1.0;
            first = sym (joined_up n S 0 (corners_of e).0 w.1.0) ∙ w.1.1.0;
            second = sym (joined_up n S 0 (corners_of e).1 (omega arith)) ∙ w.1.1.1;
          }

      from : Homeward n S e → (S e ≡ 1) × ((0 < (corners_of e).0) × ((joined n S 0 (corners_of e).0 ≡ 1) × (joined n S 0 (corners_of e).1 ≡ 1)))
      from h =
          let up = (only e h.member).0 in (
            h.member,
            (
              h.away,
              (joined_up n S 0 (corners_of e).0 h.away ∙ h.first, joined_up n S 0 (corners_of e).1 (omega (arith, h.away)) ∙ h.second),
            ),
          )

module _ (n : ℕ) (S : PairSet) (large : 3 ≤ n) (few : n ≤ 24) (small : Small S) (t : Triangulation n S) where
  g : Drawn n (edge n S)
  g = drawing n S large few small t

  -- a gap is a way home
  module _ (a b : ℕ) (p : Gap n (edge n S) a b) where
    pub gap_inner : Inner n a b
    gap_inner = record { wide = p.wide; within = p.within; cut = inl p.positive }

    gap-corners : corners_of (number a b) ≡ (a, b)
    gap-corners = corners_pair n S few a b (omega (arith, p.wide)) p.within

    pub gap_below : number a b < pair_count n
    gap_below = number_below a b n (omega (arith, p.wide)) p.within

    pub gap_homeward : Homeward n S (number a b)
    gap_homeward =
        record {
          member = sym (edge_member n S a b (diagonal_from n a b gap_inner)) ∙ gap_closed n (edge n S) g a b p;
          away = subst (λ (x : ℕ × ℕ). 0 < x.0) (sym gap-corners) p.positive;
          first = subst (λ (x : ℕ × ℕ). edge n S 0 x.0 ≡ 1) (sym gap-corners) p.first;
          second = subst (λ (x : ℕ × ℕ). edge n S 0 x.1 ≡ 1) (sym gap-corners) p.second;
        }

  -- a way home is wide, and its first corner lies before the first corner that is not joined to 0 only if it
  -- is the one before it
  homeward-after : (i e : ℕ) → ((c : ℕ) → 0 < c → c < i → edge n S 0 c ≡ 1) → Homeward n S e → i ≤ (corners_of e).0 + 1
  homeward-after i e before h = go (cases_lt ((corners_of e).0 + 1) i)
    where
      w : Inner n (corners_of e).0 (corners_of e).1
      w = inner n (corners_of e) (t.only_diagonals e h.member)

      go : ((corners_of e).0 + 1 < i) ⊎ (i ≤ (corners_of e).0 + 1) → i ≤ (corners_of e).0 + 1
      go (inl l) =
          absurd
          (g.plane 0 ((corners_of e).0 + 1) (corners_of e).0 (corners_of e).1 (before ((corners_of e).0 + 1) (omega arith) l)
          (member_edge n S t.only_diagonals e h.member) h.away (omega arith) w.wide)
      go (inr l) = l

  pub home_first : (i : ℕ) → 0 < i → i < n → edge n S 0 i ≡ 0 → ((c : ℕ) → 0 < c → c < i → edge n S 0 c ≡ 1)
      → (b : ℕ) → i < b → b < n → edge n S 0 b ≡ 1 → ((d : ℕ) → i < d → d < b → edge n S 0 d ≡ 0)
      → home_slot n S ≡ Some (number (i - 1) b)
  unfolding home_slot number
  home_first i h l z before b k m o none =
      least_is (leads_home n S) (pair_count n) (number (i - 1) b) (gap_below (i - 1) b p) (λ e q. not-before e q (leads_home n S e) refl)
      ((homeward_decides n S t.only_diagonals (number (i - 1) b)).1 (gap_homeward (i - 1) b p))
    where
      p : Gap n (edge n S) (i - 1) b
      p = gap_after n (edge n S) g i h l z before b k m o none

      -- its second corner is b or a later one
      later : (e : ℕ) → Homeward n S e → ((corners_of e).1 ≡ i) ⊎ (((corners_of e).1 < i) ⊎ (i < (corners_of e).1)) → b ≤ (corners_of e).1
      later e x (inl s) = absurd (omega (arith, ap (edge n S 0) s, x.second))
      later e x (inr (inl s)) =
          absurd (omega (arith, homeward-after i e before x, (inner n (corners_of e) (t.only_diagonals e x.member)).wide))
      later e x (inr (inr s)) = reach (cases_lt (corners_of e).1 b)
        where
          reach : ((corners_of e).1 < b) ⊎ (b ≤ (corners_of e).1) → b ≤ (corners_of e).1
          reach (inl q) = absurd (omega (arith, none (corners_of e).1 s q, x.second))
          reach (inr q) = q

      ordered : (e : ℕ) → Homeward n S e → ((corners_of e).1 ≡ b) ⊎ (((corners_of e).1 < b) ⊎ (b < (corners_of e).1)) → number (i - 1) b ≤ e
      ordered e x (inl s) =
          omega (arith, (diagonal_numbered n e (t.only_diagonals e x.member)).1, ap pair_count s, homeward-after i e before x)
      ordered e x (inr (inl s)) = absurd (omega (arith, later e x (cases_order (corners_of e).1 i)))
      ordered e x (inr (inr s)) =
          omega (
            arith,
            (diagonal_numbered n e (t.only_diagonals e x.member)).1,
            number_later (i - 1) b (corners_of e).0 (corners_of e).1 (omega arith) s,
          )

      not-before : (e : ℕ) → e < number (i - 1) b → (v : Bool) → leads_home n S e ≡ v → leads_home n S e ≡ false
      not-before e q true v =
          let x = (homeward_decides n S t.only_diagonals e).0 v in
          absurd (omega (arith, ordered e x (cases_order (corners_of e).1 b)))
      not-before e q false v = v

  -- what the search finds
  pub home_homeward : (h : ℕ) → home_slot n S ≡ Some h → Homeward n S h × (h < pair_count n)
  unfolding home_slot
  home_homeward h e = go (least_cases (pair_count n) (leads_home n S))
    where
      go : Found (pair_count n) (leads_home n S) ⊎ Nowhere (pair_count n) (leads_home n S) → Homeward n S h × (h < pair_count n)
      go (inl f) =
          let same = some_is (home_slot n S) f.place h f.is e in
          subst (λ (x : ℕ). Homeward n S x × (x < pair_count n)) same
          ((homeward_decides n S t.only_diagonals f.place).0 f.passes, omega (arith, f.below))
      go (inr f) = absurd (some_not_none (home_slot n S) h e f.is)

  pub home_from : (e : ℕ) → Homeward n S e → (h : ℕ) × (home_slot n S ≡ Some h)
  unfolding home_slot
  home_from e x = go (least_cases (pair_count n) (leads_home n S))
    where
      go : Found (pair_count n) (leads_home n S) ⊎ Nowhere (pair_count n) (leads_home n S) → (h : ℕ) × (home_slot n S ≡ Some h)
      go (inl f) = (f.place, f.is)
      go (inr f) =
          absurd
          (both_ways (leads_home n S e) (f.none e (omega (arith, diagonal_below n e (t.only_diagonals e x.member))))
          ((homeward_decides n S t.only_diagonals e).1 x))

  pub home_none : ((e : ℕ) → Homeward n S e → ⊥) → home_slot n S ≡ None
  unfolding home_slot
  home_none never = go (least_cases (pair_count n) (leads_home n S))
    where
      go : Found (pair_count n) (leads_home n S) ⊎ Nowhere (pair_count n) (leads_home n S) → home_slot n S ≡ None
      go (inl f) = absurd (never f.place ((homeward_decides n S t.only_diagonals f.place).0 f.passes))
      go (inr f) = f.is

  -- in the words of the textbook
  leads-from : (e : ℕ) → Homeward n S e → LeadsHome n S e
  leads-from e h =
      record {
        a = (corners_of e).0;
        b = (corners_of e).1;
        pair = pair_at n e (t.only_diagonals e h.member);
        member = h.member;
        away = h.away;
        first = side_or_member n S 0 (corners_of e).0 h.first;
        second = side_or_member n S 0 (corners_of e).1 h.second;
      }

  leads-to : (e : ℕ) → LeadsHome n S e → Homeward n S e
  leads-to e w =
      let at = corners_at n S e w.a w.b few w.pair in
      record {
        member = w.member;
        away = subst (λ (p : ℕ × ℕ). 0 < p.0) (sym at) w.away;
        first = subst (λ (p : ℕ × ℕ). edge n S 0 p.0 ≡ 1) (sym at) (edge_from n S 0 w.a w.first);
        second = subst (λ (p : ℕ × ℕ). edge n S 0 p.1 ≡ 1) (sym at) (edge_from n S 0 w.b w.second);
      }

  home-first : (e d : ℕ) → home_slot n S ≡ Some e → LeadsHome n S d → e ≤ d
  unfolding home_slot
  home-first e d h w = go (cases_lt d e)
    where
      go : (d < e) ⊎ (e ≤ d) → e ≤ d
      go (inr l) = l
      go (inl l) =
          absurd
          (both_ways (leads_home n S d) (least_first (pair_count n) (leads_home n S) e h d l)
          ((homeward_decides n S t.only_diagonals d).1 (leads-to d w)))

  pub home_smallest : Smallest (LeadsHome n S) (home_slot n S)
  home_smallest =
      record {
        is_some = λ e. ((λ h. (leads-from e (home_homeward e h).0, λ d w. home-first e d h w)), λ w. found e w.0 w.1);
        is_none = ((λ h e w. let f = home_from e (leads-to e w) in some_not_none (home_slot n S) f.0 f.1 h), λ never. home_none (λ e h. never e (leads-from e h)));
      }
    where
      found : (e : ℕ) → LeadsHome n S e → ((d : ℕ) → LeadsHome n S d → e ≤ d) → home_slot n S ≡ Some e
      found e w least =
          let f = home_from e (leads-to e w) in
          let after = least f.0 (leads-from f.0 (home_homeward f.0 f.1).0) in
          let before = home-first f.0 e f.1 w in
          let same : f.0 ≡ e = omega arith in
          f.1 ∙ ap Some same

  -- with corner 0 joined to all there is no way home
  pub home_full : Full n (edge n S) → home_slot n S ≡ None
  home_full full =
      home_none
      (λ e x.
      full_fan n (edge n S) g full (corners_of e).0 (corners_of e).1 x.away
      (inner n (corners_of e) (t.only_diagonals e x.member)).wide (member_edge n S t.only_diagonals e x.member))
