-- The path keeps the laws: they are computed at each of its objects and slots.
use Rattle.std.specs.Prelude.{◌≡◌, ℕ, zero, suc, ◌<◌, ◌≤◌, [], ◌∷◌, length, Some, None, ◌≢◌, refl}
use Rattle.std.proofs.Common.{lit<, lit≤, subst, subst₂, arith}
use Rattle.std.proofs.lemmas.Bool.{ltb-true, lt-ltb}
use Rattle.std.specs.List.{AllByRecursion}
use Rattle.oracle.specs.Laws.{Object, Lawful}
use Rattle.oracle.specs.Setup.{Code, Slot, vacant, filled}
use Rattle.tiny_path.specs.Setup.{code, path}

-- what holds of the three objects holds of every object
each_object : (P : Code → Type 0) → P (code 0) → P (code 1) → P (code 2) → (v : Code) → Object path v → P v
each_object P a b c [] o = let z : ◌≡◌ {A = ℕ} 0 1 = cc in absurd (omega arith)
each_object P a b c (zero ∷ []) o = a
each_object P a b c (suc zero ∷ []) o = b
each_object P a b c (suc (suc zero) ∷ []) o = c
each_object P a b c (suc (suc (suc i)) ∷ []) o = absurd (omega (arith, ltb-true (suc (suc (suc i))) 3 o))
each_object P a b c (i ∷ k ∷ ks) o = let z : ◌≡◌ {A = ℕ} 0 1 = cc in absurd (omega arith)

-- what holds of the four slots holds of every slot
each_slot : (Q : ℕ → Type 0) → Q 0 → Q 1 → Q 2 → Q 3 → (j : ℕ) → j < 4 → Q j
each_slot Q a b c d zero lt = a
each_slot Q a b c d (suc zero) lt = b
each_slot Q a b c d (suc (suc zero)) lt = c
each_slot Q a b c d (suc (suc (suc zero))) lt = d
each_slot Q a b c d (suc (suc (suc (suc j)))) lt = absurd (omega arith)

-- what the first law says of slot j of v, which holds t
abbrev LeadsBack : Code → ℕ → Slot → Type 0
LeadsBack v j t = (w : Code) (k : ℕ) → t ≡ filled w k → Object path w × (k < 4) × (path.slot w k ≡ filled v j)

at_vacant : (v : Code) (j : ℕ) → LeadsBack v j vacant
at_vacant v j w k e = let z : ◌≡◌ {A = ℕ} 0 1 = cc in absurd (omega arith)

at_filled : (v : Code) (j : ℕ) (u : Code) (m : ℕ) → Object path u → m < 4 → path.slot u m ≡ filled v j → LeadsBack v j (filled u m)
at_filled v j u m a b c w k e =
    let p : u ≡ w = cc in
    let q : m ≡ k = cc in
    subst₂ (λ (x : Code) (n : ℕ). Object path x × (n < 4) × (path.slot x n ≡ filled v j)) p q (a, b, c)

leads_back : (v : Code) → Object path v → (j : ℕ) → j < 4 → LeadsBack v j (path.slot v j)
leads_back =
    each_object (λ v. (j : ℕ) → j < 4 → LeadsBack v j (path.slot v j))
    (each_slot (λ j. LeadsBack (code 0) j (path.slot (code 0) j)) (at_vacant (code 0) 0) (at_vacant (code 0) 1)
    (at_filled (code 0) 2 (code 1) 0 refl (lit< tt) refl)
    (at_filled (code 0) 3 (code 1) 1 refl (lit< tt) refl))
    (each_slot (λ j. LeadsBack (code 1) j (path.slot (code 1) j)) (at_filled (code 1) 0 (code 0) 2 refl (lit< tt) refl)
    (at_filled (code 1) 1 (code 0) 3 refl (lit< tt) refl)
    (at_filled (code 1) 2 (code 2) 0 refl (lit< tt) refl)
    (at_filled (code 1) 3 (code 2) 1 refl (lit< tt) refl))
    (each_slot (λ j. LeadsBack (code 2) j (path.slot (code 2) j)) (at_filled (code 2) 0 (code 1) 2 refl (lit< tt) refl)
    (at_filled (code 2) 1 (code 1) 3 refl (lit< tt) refl)
    (at_vacant (code 2) 2)
    (at_vacant (code 2) 3))

-- what the third law says of a home slot h
pub record Homed (v : Code) (h : ℕ) : Type 0 where
  pub below : h < 4
  pub parent : Code
  pub down : ℕ
  pub holds : path.slot v h ≡ filled parent down
  pub lower : path.rank parent < path.rank v

no_home : (v : Code) → path.home v ≡ None → (h : ℕ) → path.home v ≡ Some h → Homed v h
no_home v e h f = let z : ◌≡◌ {A = ℕ} 0 1 = cc in absurd (omega arith)

home_one : (v u : Code) (i : ℕ) → path.home v ≡ Some 1 → path.slot v 1 ≡ filled u i → path.rank u < path.rank v → (h : ℕ) → path.home v ≡ Some h → Homed v h
home_one v u i e f r h g =
    let p : 1 ≡ h = cc in
    subst (Homed v) p (record { below = lit< tt; parent = u; down = i; holds = f; lower = r })

homed : (v : Code) → Object path v → (h : ℕ) → path.home v ≡ Some h → Homed v h
homed =
    each_object (λ v. (h : ℕ) → path.home v ≡ Some h → Homed v h) (no_home (code 0) refl)
    (home_one (code 1) (code 0) 3 refl refl (lit< tt))
    (home_one (code 2) (code 1) 3 refl refl (lit< tt))

parent_lower : (v u : Code) (h i : ℕ) → Object path v → path.home v ≡ Some h → path.slot v h ≡ filled u i → path.rank u < path.rank v
parent_lower v u h i o e f =
    let k = homed v o h e in
    let p : k.parent ≡ u = cc (k.holds, f) in
    subst (λ x. path.rank x < path.rank v) p k.lower

pub path_lawful : Lawful path
path_lawful =
    record {
      width_limit = lit≤ tt;
      size_positive = lit≤ tt;
      size_limit = lit≤ tt;
      height_limit = lit≤ tt;
      code_size = each_object (λ v. length v ≡ 1) refl refl refl;
      code_bytes = each_object (λ v. AllByRecursion (λ b. b < 256) v) (lit< tt, tt) (lit< tt, tt) (lit< tt, tt);
      rank_limit = each_object (λ v. path.rank v ≤ 2) (lit≤ tt) (lit≤ tt) (lit≤ tt);
      neighbour_object = λ v w j k o lt e. (leads_back v o j lt w k e).0;
      return_below = λ v w j k o lt e. (leads_back v o j lt w k e).1;
      return_leads_back = λ v w j k o lt e. (leads_back v o j lt w k e).2;
      root_object = refl;
      root_rank = refl;
      root_homeless = refl;
      has_home =
          each_object (λ v. (v ≢ code 0) → (h : ℕ) × (path.home v ≡ Some h)) (λ n. absurd (n refl)) (λ n. (1, refl)) (λ n. (1, refl));
      home_below = λ v h o e. (homed v o h e).below;
      home_filled = λ v h o e. ((homed v o h e).parent, (homed v o h e).down, (homed v o h e).holds);
      parent_lower = parent_lower;
    }

-- a number below 3 is the code of an object
pub path_stands : (i : ℕ) → i < 3 → Object path (code i)
path_stands i lt = lt-ltb i 3 lt
