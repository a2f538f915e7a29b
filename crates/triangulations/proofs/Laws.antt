-- The census of triangulations is lawful for every polygon of 3 to 24 corners.
use Rattle.std.proofs.Common.{◌≡◌, ℕ, ◌<◌, ◌≤◌, true, ◌⊎◌, Some, None, sym, ap, ◌∙◌, subst, inl, inr, arith}
use Rattle.oracle.specs.Laws.{Lawful}
use Rattle.oracle.specs.Setup.{Code, filled}
use Rattle.pairs.specs.Pairs.{pair_count}
use Rattle.pairs.proofs.Numbers.{pair_count_limit}
use Rattle.triangulations.specs.Census.{slot_of, is_object, polygon}
use Rattle.triangulations.specs.Codes.{members, code_of}
use Rattle.triangulations.specs.Moves.{exchanged, home_slot, rank_of, fan, edge}
use Rattle.triangulations.specs.Textbook.{PairSet, Triangulation}
use Rattle.triangulations.proofs.Bytes.{members_small, code_members}
use Rattle.triangulations.proofs.Drawing.{drawing}
use Rattle.triangulations.proofs.Fans.{fan_small, fan_spoke, fan_triangulation, full_is_fan}
use Rattle.triangulations.proofs.Gaps.{Gap, Full, full_or_gap}
use Rattle.triangulations.proofs.Homes.{Homeward, gap_homeward, home_homeward, home_from, home_none}
use Rattle.triangulations.proofs.Neighbours.{Neighbour, neighbour, flip_of}
use Rattle.triangulations.proofs.Objects.{object_decides, code_members_are, code_object, slot_filled, Filled, filled_is}
use Rattle.triangulations.proofs.Ranks.{fan_rank, parent_rank, rank_limit}

module _ (n : ℕ) (large : 3 ≤ n) (few : n ≤ 24) where
  -- ---- slots lead back

  module _ (v w : Code) (j k : ℕ) (o : is_object n v ≡ true) (f : slot_of n (members v) j ≡ filled w k) where
    tri : Triangulation n (members v)
    tri = ((object_decides n v).0 o).1

    parts : Filled n (members v) j w k
    parts = filled_is n (members v) j w k f

    near : Neighbour n (members v) j k
    near = neighbour n (members v) large few (members_small v) tri j parts.member k parts.replaced

    neighbour-is : is_object n w ≡ true
    neighbour-is = subst (λ (x : Code). is_object n x ≡ true) (sym parts.code) (code_object n (exchanged (members v) j k) near.small near.triangulation)

    neighbour-members : members w ≡ exchanged (members v) j k
    neighbour-members = ap members parts.code ∙ code_members_are n (exchanged (members v) j k) near.small near.triangulation

    leads_back : slot_of n (members w) k ≡ filled v j
    leads_back =
        ap (λ (T : PairSet). slot_of n T k) neighbour-members
        ∙ slot_filled n (exchanged (members v) j k) k j near.member near.back
        ∙ ap (λ (T : PairSet). filled (code_of T) j) near.undone
        ∙ ap (λ (x : Code). filled x j) (code_members v ((object_decides n v).0 o).0)

  -- ---- the root

  pub root_members : members (code_of (fan n)) ≡ fan n
  root_members = code_members_are n (fan n) (fan_small n) (fan_triangulation n large few)

  root_homeless : home_slot n (members (code_of (fan n))) ≡ None
  root_homeless =
      ap (home_slot n) root_members
      ∙ home_none n (fan n) large few (fan_small n) (fan_triangulation n large few)
      (λ e h. omega (arith, h.away, (fan_spoke n e h.member).1))

  root_rank : rank_of n (members (code_of (fan n))) ≡ 0
  root_rank = ap (rank_of n) root_members ∙ fan_rank n

  -- ---- the way home

  module _ (v : Code) (o : is_object n v ≡ true) where
    tri-of : Triangulation n (members v)
    tri-of = ((object_decides n v).0 o).1

    has_home : (v ≡ code_of (fan n) → ⊥) → (h : ℕ) × (home_slot n (members v) ≡ Some h)
    has_home other = go (full_or_gap n (edge n (members v)) (drawing n (members v) large few (members_small v) tri-of))
      where
        go : Full n (edge n (members v)) ⊎ ((a : ℕ) × (b : ℕ) × Gap n (edge n (members v)) a b) → (h : ℕ) × (home_slot n (members v) ≡ Some h)
        go (inl full) =
            absurd
            (other (sym (code_members v ((object_decides n v).0 o).0) ∙ ap code_of (full_is_fan n (members v) large few (members_small v) tri-of full)))
        go (inr (a, b, p)) =
            home_from n (members v) large few (members_small v) tri-of _ (gap_homeward n (members v) large few (members_small v) tri-of a b p)

    module _ (h : ℕ) (e : home_slot n (members v) ≡ Some h) where
      way : Homeward n (members v) h × (h < pair_count n)
      way = home_homeward n (members v) large few (members_small v) tri-of h e

      home_filled : (u : Code) × (i : ℕ) × (slot_of n (members v) h ≡ filled u i)
      home_filled =
          let f = flip_of n (members v) large few (members_small v) tri-of h way.0.member in
          (_, _, slot_filled n (members v) h _ way.0.member f.is)

      parent_lower : (u : Code) (i : ℕ) → slot_of n (members v) h ≡ filled u i → rank_of n (members u) < rank_of n (members v)
      parent_lower u i f =
          let same = neighbour-members v u h i o f in
          let down = parent_rank n (members v) large few (members_small v) tri-of h way.0 i (parts v u h i o f).replaced in
          omega (arith, ap (rank_of n) same, down.0)

  pub polygon_lawful : Lawful (polygon n)
  polygon_lawful =
      record {
        width_limit = omega (arith, pair_count_limit n few);
        size_positive = omega arith;
        size_limit = omega arith;
        height_limit = omega arith;
        code_size = λ v o. ((object_decides n v).0 o).0.size;
        code_bytes = λ v o. ((object_decides n v).0 o).0.bytes;
        rank_limit = λ v o. rank_limit n (members v) large few (members_small v) ((object_decides n v).0 o).1;
        neighbour_object = λ v w j k o l f. neighbour-is v w j k o f;
        return_below = λ v w j k o l f. (near v w j k o f).below;
        return_leads_back = λ v w j k o l f. leads_back v w j k o f;
        root_object = code_object n (fan n) (fan_small n) (fan_triangulation n large few);
        root_rank = root_rank;
        root_homeless = root_homeless;
        has_home = λ v o other. has_home v o other;
        home_below = λ v h o e. (way v o h e).1;
        home_filled = λ v h o e. home_filled v o h e;
        parent_lower = λ v u h i o e f. parent_lower v o h e u i f;
      }
