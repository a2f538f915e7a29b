-- A capped set-up keeps the laws, whatever the cap is.
use Rattle.std.specs.Prelude.{◌≡◌, ℕ, ◌≤◌, Bool, true, false, cond, nat_le}
use Rattle.std.proofs.Math.Path.{refl, ap}
use Rattle.std.proofs.Common.{sym, ◌∙◌, arith}
use Rattle.std.proofs.lemmas.Bool.{and_parts, and_from, leb-true, le-leb, cond-true}
use Rattle.oracle.specs.Laws.{Object, Lawful}
use Rattle.oracle.specs.Setup.{Code, Setup, Slot, vacant, filled}
use Rattle.cap.specs.Capped.{kept, capped}

module _ (c : ℕ) (s : Setup) where
  -- an object of the cap is one below, of a rank that the cap allows
  pub object_below : (v : Code) → Object (capped c s) v → Object s v
  object_below v h = (and_parts (s.object v) (nat_le (s.rank v) c) h).0

  pub object_low : (v : Code) → Object (capped c s) v → s.rank v ≤ c
  object_low v h = leb-true (s.rank v) c (and_parts (s.object v) (nat_le (s.rank v) c) h).1

  pub object_from : (v : Code) → Object s v → s.rank v ≤ c → Object (capped c s) v
  object_from v h low = and_from (s.object v) (nat_le (s.rank v) c) h (le-leb (s.rank v) c low)

  -- a slot that is kept, and one that is not
  pub kept_low : (x : Slot) (w : Code) (k : ℕ) → x ≡ filled w k → s.rank w ≤ c → kept c s x ≡ filled w k
  unfolding kept
  kept_low x w k e low = ap (kept c s) e ∙ cond-true (nat_le (s.rank w) c) (filled w k) vacant (le-leb (s.rank w) c low)

  pub kept_filled : (x : Slot) (w : Code) (k : ℕ) → kept c s x ≡ filled w k → (x ≡ filled w k) × (s.rank w ≤ c)
  unfolding kept
  kept_filled vacant w k e = absurd (let z : ◌≡◌ {A = ℕ} 0 1 = cc in omega arith)
  kept_filled (filled u i) w k e = go (nat_le (s.rank u) c) refl
    where
      by : Bool → Slot
      by t = cond t (filled u i) vacant

      go : (t : Bool) → nat_le (s.rank u) c ≡ t → (filled u i ≡ filled w k) × (s.rank w ≤ c)
      go true f =
          let same : filled u i ≡ filled w k = sym (ap by f) ∙ e in
          let codes : u ≡ w = cc in
          let low = leb-true (s.rank u) c f in
          let ranks = ap s.rank codes in
          (same, omega arith)
      go false f =
          let same : vacant ≡ filled w k = sym (ap by f) ∙ e in
          absurd (let z : ◌≡◌ {A = ℕ} 0 1 = cc in omega arith)

pub cap_lawful : (c : ℕ) (s : Setup) → Lawful s → Lawful (capped c s)
cap_lawful c s l =
    record {
      width_limit = l.width_limit;
      size_positive = l.size_positive;
      size_limit = l.size_limit;
      height_limit = (let h = l.height_limit in omega arith);
      code_size = λ v h. l.code_size v (object_below c s v h);
      code_bytes = λ v h. l.code_bytes v (object_below c s v h);
      rank_limit = λ v h.
          (let low = object_low c s v h in let high = l.rank_limit v (object_below c s v h) in omega arith);
      neighbour_object = λ v w j k h b e.
          (let f = kept_filled c s (s.slot v j) w k e in
          object_from c s w (l.neighbour_object v w j k (object_below c s v h) b f.0) f.1);
      return_below = λ v w j k h b e.
          l.return_below v w j k (object_below c s v h) b (kept_filled c s (s.slot v j) w k e).0;
      return_leads_back = λ v w j k h b e.
          kept_low c s (s.slot w k) v j
          (l.return_leads_back v w j k (object_below c s v h) b (kept_filled c s (s.slot v j) w k e).0) (object_low c s v h);
      root_object = object_from c s s.root l.root_object (let z = l.root_rank in omega arith);
      root_rank = l.root_rank;
      root_homeless = l.root_homeless;
      has_home = λ v h other. l.has_home v (object_below c s v h) other;
      home_below = λ v h' h e. l.home_below v h' (object_below c s v h) e;
      home_filled = λ v h' h e.
          (let f = l.home_filled v h' (object_below c s v h) e in
          let lower = l.parent_lower v f.0 h' f.1 (object_below c s v h) e f.2 in
          let low = object_low c s v h in
          (f.0, f.1, kept_low c s (s.slot v h') f.0 f.1 f.2 (omega arith)));
      parent_lower = λ v u h' i h e f.
          l.parent_lower v u h' i (object_below c s v h) e (kept_filled c s (s.slot v h') u i f).0;
    }
