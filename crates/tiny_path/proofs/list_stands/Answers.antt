use Rattle.std.proofs.Common.{refl}
use Rattle.oracle.specs.Home.{homeward}
use Rattle.oracle.specs.Listing.{child_before, children_from, children, listed, list_of}
use Rattle.oracle.specs.Sight.{sight_of, seen}
use Rattle.oracle.specs.Walk.{passing, scan, onward, rise, walk_from}
use Rattle.tiny_path.proofs.list_stands.Goals as goal

pub returns : goal.returns
unfolding homeward child_before children_from children listed list_of sight_of seen passing scan onward rise walk_from
returns c = record { objects = refl; steps = refl }
