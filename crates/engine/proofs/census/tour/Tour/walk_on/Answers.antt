use Rattle.std.proofs.Common.{rules}
use Rattle.engine.proofs.census.tour.Tour.walk_on.Goals as goal

pub returns-in-Child-clause-advanced : goal.returns-in-Child-clause-advanced
returns-in-Child-clause-advanced g c = search rules

pub returns-in-Child-clause-booked : goal.returns-in-Child-clause-booked
returns-in-Child-clause-booked g c = search rules

pub returns-in-Child-clause-called : goal.returns-in-Child-clause-called
returns-in-Child-clause-called g c = search rules

pub returns-in-End-clause-advanced : goal.returns-in-End-clause-advanced
returns-in-End-clause-advanced g c = search rules

pub returns-in-End-clause-booked : goal.returns-in-End-clause-booked
returns-in-End-clause-booked g c = search rules

pub returns-in-End-clause-called : goal.returns-in-End-clause-called
returns-in-End-clause-called g c = search rules
