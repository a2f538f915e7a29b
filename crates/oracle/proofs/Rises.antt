-- Rising from an object to its parent, and the scan of slots before it.
use Rattle.std.proofs.Common.{◌≡◌, ℕ, zero, suc, ◌+◌, ◌-◌, ◌<◌, ◌≤◌, None, sym, refl, ap, ◌∙◌, arith}
use Rattle.oracle.proofs.Family.{Parent, Upward, upward, child_is, child_object, home_parent, homeward_is, homeward_none}
use Rattle.oracle.specs.Laws.{Object, Lawful}
use Rattle.oracle.specs.Setup.{Code, Setup}
use Rattle.oracle.specs.Sight.{child, seen}
use Rattle.oracle.specs.Walk.{Walked, ended, after, passing, scan, scan_from, onward, rise, walk_from}

pub scan_more : (s : Setup) (v : Code) (j : ℕ) (rest : Walked) → j < s.width → scan_from s v j rest ≡ passing (seen s v j) (scan_from s v (j + 1) rest)
unfolding scan
scan_more s v j rest lt =
    let e : s.width - j ≡ suc (s.width - (j + 1)) = omega arith in
    ap (λ n. scan s v j n rest) e

pub scan_none : (s : Setup) (v : Code) (j : ℕ) (rest : Walked) → s.width ≤ j → scan_from s v j rest ≡ rest
unfolding scan
scan_none s v j rest le = let e : s.width - j ≡ 0 = omega arith in ap (λ n. scan s v j n rest) e

pub rise_ends : (s : Setup) (most : ℕ) (v : Code) → s.home v ≡ None → rise most s v ≡ ended
unfolding rise onward
rise_ends s zero v e = refl
rise_ends s (suc most) v e =
    ap (λ t. onward t (λ u i. scan_from s u (i + 1) (rise most s u))) (homeward_none s v e)

rise_once : (s : Setup) (most : ℕ) (v : Code) (k : Parent s v) → rise (suc most) s v ≡ after 1 (scan_from s k.parent (k.down + 1) (rise most s k.parent))
unfolding rise onward
rise_once s most v k =
    ap (λ t. onward t (λ u i. scan_from s u (i + 1) (rise most s u)))
    (homeward_is s v k.up k.home_is ∙ k.slot_is)

module _ (s : Setup) (law : Lawful s) where
  -- any two bounds that suffice give one rise
  rise-same : (v : Code) → Object s v → (a b : ℕ) → s.rank v ≤ a → s.rank v ≤ b → rise a s v ≡ rise b s v
  rise-same =
      upward s law (λ v. (a b : ℕ) → s.rank v ≤ a → s.rank v ≤ b → rise a s v ≡ rise b s v)
      (λ a b p q. rise_ends s a s.root law.root_homeless ∙ sym (rise_ends s b s.root law.root_homeless))
      step
    where
      step : Upward s law (λ v. (a b : ℕ) → s.rank v ≤ a → s.rank v ≤ b → rise a s v ≡ rise b s v)
      step v o k ih zero b p q = absurd (omega (arith, k.lower))
      step v o k ih (suc a) zero p q = absurd (omega (arith, k.lower))
      step v o k ih (suc a) (suc b) p q =
          rise_once s a v k
          ∙ ap (λ r. after 1 (scan_from s k.parent (k.down + 1) r)) (ih a b (omega (arith, k.lower)) (omega (arith, k.lower)))
          ∙ sym (rise_once s b v k)

  -- rising from v goes on from its parent, at the slot after the one that leads to v
  pub rise_parent : (v : Code) (k : Parent s v) → rise (s.rank v) s v ≡ after 1 (walk_from s k.parent (k.down + 1))
  unfolding walk_from
  rise_parent v k = go (s.rank v) refl
    where
      go : (r : ℕ) → s.rank v ≡ r → rise r s v ≡ after 1 (walk_from s k.parent (k.down + 1))
      go zero e = absurd (omega (arith, k.lower))
      go (suc r) e =
          rise_once s r v k
          ∙ ap (λ t. after 1 (scan_from s k.parent (k.down + 1) t))
          (rise-same k.parent k.object_is r (s.rank k.parent) (omega (arith, k.lower)) (omega arith))

  pub rise_child : (v : Code) (j : ℕ) (w : Code) → Object s v → j < s.width → seen s v j ≡ child w → rise (s.rank w) s w ≡ after 1 (walk_from s v (j + 1))
  rise_child v j w o lt e =
      let k = child_is s v j w e in
      rise_parent w
      (home_parent s law w v k.back j (child_object s law v j w o lt e) k.home_is
      (law.return_leads_back v w j k.back o lt k.slot_is))
