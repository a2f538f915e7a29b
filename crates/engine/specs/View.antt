-- A census as its acts show it: where it stands, and its tally.
use Rattle.oracle.specs.Setup.{Code, Setup}
use Rattle.engine.specs.Stand.{Stand, standing_at, stand_of}
use Rattle.engine.specs.Tallies.{cleared}
use Rattle.engine.specs.declared.census.tour.Tour.{Tour}
use Rattle.engine.specs.declared.tally.Tally.{Tally}

pub record View : Type 0 where
  pub stand : Stand
  pub tally : Tally

-- The place is computed from the oracle's own current object.
abbrev pub shown : {O : Type 0} → (O → Setup) → (O → Code) → Tour O → View
shown setup current census =
    record {
      stand = stand_of (setup census.oracle) census.rest (current census.oracle);
      tally = census.tally;
    }

-- A census just made or restarted: at the first place, with a fresh tally.
abbrev pub begun : Setup → View
begun s = record { stand = standing_at s 1; tally = cleared }
