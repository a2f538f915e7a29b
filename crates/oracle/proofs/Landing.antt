-- The walk from slot 0 leads to the next place, the one past the end included.
use Rattle.std.proofs.Common.{◌≡◌, ◌+◌, ◌<◌, ◌≤◌, ◌⊎◌, ap, ◌∙◌, inl, inr, arith}
use Rattle.std.proofs.lemmas.Bool.{cases_lt}
use Rattle.oracle.proofs.Complete.{complete}
use Rattle.oracle.proofs.LeadsOn.{leads_on}
use Rattle.oracle.specs.Laws.{Object, Lawful}
use Rattle.oracle.specs.Outcomes.{landing, rested}
use Rattle.oracle.specs.Places.{at, place, objects}
use Rattle.oracle.specs.Setup.{Code, Setup}
use Rattle.oracle.specs.Walk.{walk}
use Rattle.oracle.specs.declared.outcome.Reached.{Reached}

module _ (s : Setup) (law : Lawful s) (v : Code) (o : Object s v) (reached : Reached) (w : Code) where
  landed : (place s v < objects s) ⊎ (objects s ≤ place s v) → (reached, w) ≡ rested s (at s (place s v + 1)) → landing s reached w ≡ place s v + 1
  landed (inl lt) e =
      let (x, f) = (complete s law).at_within (place s v + 1) (omega arith) (omega arith) in
      let g = e ∙ ap (rested s) f in
      ap (λ p. landing s p.0 p.1) g ∙ (complete s law).place_of_at x (place s v + 1) f
  landed (inr le) e =
      let f = (complete s law).at_beyond (place s v + 1) (omega arith) in
      let g = e ∙ ap (rested s) f in
      ap (λ p. landing s p.0 p.1) g ∙ omega (arith, (complete s law).place_upto v o)

  pub walk_lands : (reached, w) ≡ rested s (walk s v).stop → landing s reached w ≡ place s v + 1
  walk_lands e =
      landed (cases_lt (place s v) (objects s))
      (e ∙ ap (rested s) (leads_on s law v (place s v) ((complete s law).at_its_place v o)))
