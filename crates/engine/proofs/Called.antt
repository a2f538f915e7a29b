-- How often the acts tell an oracle to step.
use Rattle.std.proofs.Common.{◌≡◌, ℕ, sym, refl, ap, ◌∙◌}
use Rattle.oracle.specs.Home.{steps_home}
use Rattle.oracle.specs.Outcomes.{ticks}
use Rattle.oracle.specs.Places.{at}
use Rattle.oracle.specs.Setup.{Code, Setup}
use Rattle.oracle.specs.declared.walking.Walking.{Ghosts}
use Rattle.engine.proofs.Standings.{spot_of_tour}
use Rattle.engine.specs.Stand.{stand_of}
use Rattle.engine.specs.States.{spot_of}
use Rattle.engine.specs.Steps.{next_steps}
use Rattle.engine.specs.View.{shown}
use Rattle.engine.specs.declared.census.tour.Tour.{Tour}
use Rattle.engine.specs.declared.rest.Rest.{Rest}
use Rattle.engine.specs.declared.rest.Rest.TheVariants.{Standing, Past}

-- a next past the end calls no step
pub past_called : (tick : ℕ → ℕ) (s : Setup) (rest : Rest) (v : Code) (x : ℕ) → rest ≡ Past → x ≡ ticks tick (next_steps s (spot_of rest v)) x
unfolding ticks
past_called tick s rest v x e = sym (ap (λ r. ticks tick (next_steps s (spot_of r v)) x) e)

-- the object that is current is the oracle's, past the end too
current_of : (s : Setup) (rest : Rest) (v : Code) → (stand_of s rest v).current ≡ v
current_of s Standing v = refl
current_of s Past v = refl

-- a restart of a census
pub home_called : {D : Type 0} (W : Ghosts D) (tour : Tour D) (y : ℕ) → y ≡ ticks W.tick (steps_home (W.setup tour.oracle) (W.current tour.oracle)) (W.calls tour.oracle) → y ≡ ticks W.tick (steps_home (W.setup tour.oracle) (shown W.setup W.current tour).stand.current) (W.calls tour.oracle)
home_called W tour y e =
    let s = W.setup tour.oracle in
    e
    ∙ sym (ap (λ v. ticks W.tick (steps_home s v) (W.calls tour.oracle)) (current_of s tour.rest (W.current tour.oracle)))

-- a next of a census
pub next_called : {D : Type 0} (W : Ghosts D) (tour : Tour D) (y : ℕ) → W.sound tour.oracle → y ≡ ticks W.tick (next_steps (W.setup tour.oracle) (spot_of tour.rest (W.current tour.oracle))) (W.calls tour.oracle) → y ≡ ticks W.tick (next_steps (W.setup tour.oracle) (at (W.setup tour.oracle) (shown W.setup W.current tour).stand.place)) (W.calls tour.oracle)
next_called W tour y sound e =
    e
    ∙ sym (ap (λ spot. ticks W.tick (next_steps (W.setup tour.oracle) spot) (W.calls tour.oracle)) (spot_of_tour W tour sound))
