-- What contracts see of a census: its oracle, for the set-up, and its view.
use Rattle.oracle.specs.Setup.{Code, Setup}
use Rattle.engine.specs.View.{View, shown}
use Rattle.engine.specs.declared.census.tour.Tour.{Tour}

pub record Seen (O : Type 0) : Type 0 where
  pub oracle : O
  pub view : View

abbrev pub seen : {O : Type 0} → (O → Setup) → (O → Code) → Tour O → Seen O
seen setup current tour = record { oracle = tour.oracle; view = shown setup current tour }
