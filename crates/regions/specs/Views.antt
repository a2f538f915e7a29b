-- What an oracle over a map stands for: the map's set-up, and the code of the current set.
use Rattle.oracle.specs.Laws.{Lawful, Object}
use Rattle.oracle.specs.Setup.{Code, Setup}
use Rattle.masks.specs.Codes.{code}
use Rattle.masks.proofs.Lift.{coded_object}
use Rattle.connected.specs.Sets.{region_sets, regions_setup}
use Rattle.connected.proofs.Laws.{region_sets_laws, regions_lawful}
use Rattle.regions.specs.declared.subject.Regions.{Regions}

abbrev pub setup_of : Regions → Setup
setup_of r = regions_setup r.map.n r.map.rows

abbrev pub current_of : Regions → Code
current_of r = code r.set

-- every map keeps the laws, and the current set is an object
pub lawful_of : (r : Regions) → Lawful (setup_of r)
lawful_of r = regions_lawful r.map.n r.map.rows r.map.few r.map.mutual

pub stands_of : (r : Regions) → Object (setup_of r) (current_of r)
stands_of r =
    let n = r.map.n in
    let t = r.map.rows in
    coded_object (region_sets n t) (region_sets_laws n t r.map.few r.map.mutual) r.set r.stands
