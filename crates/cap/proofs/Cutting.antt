-- A capped set-up is the one below, cut at the cap.
use Rattle.std.proofs.Common.{◌≡◌, ℕ, ◌<◌, refl, ap, ◌∙◌}
use Rattle.oracle.specs.Setup.{Code, Setup, Slot, vacant, filled}
use Rattle.cap.specs.Capped.{kept, capped}
use Rattle.cap.specs.Cut.{Cut}
use Rattle.cap.specs.Laws.{object_below, object_low, object_from, kept_low, kept_filled}
use Rattle.cap.proofs.Stepping.{kept_high, kept_vacant}

module _ (c : ℕ) (s : Setup) where
  dropped : (x y : Slot) → x ≡ y → ((w : Code) (k : ℕ) → x ≡ filled w k → c < s.rank w) → kept c s x ≡ vacant
  dropped x vacant e high = ap (kept c s) e ∙ kept_vacant c s
  dropped x (filled w k) e high = ap (kept c s) e ∙ kept_high c s w k (high w k e)

  pub cut : Cut c s (capped c s)
  cut =
      record {
        objects = λ v. (λ h. (object_below c s v h, object_low c s v h), λ x. object_from c s v x.0 x.1);
        slots = λ v w j k. (kept_filled c s (s.slot v j) w k, λ x. kept_low c s (s.slot v j) w k x.0 x.1);
        others = λ v j high. dropped (s.slot v j) (s.slot v j) refl high;
        height = refl;
        width = refl;
        size = refl;
        root = refl;
        home = λ v. refl;
        rank = λ v. refl;
      }
