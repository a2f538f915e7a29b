-- What is left to print of a sheet.
use Rattle.std.specs.Prelude.{◌≡◌, ℕ, List, [], ◌∷◌, Some, None, Option}
use Rattle.cap.specs.Capped.{capped}
use Rattle.cap.specs.declared.cap.Cap.{Cap}
use Rattle.lines.specs.Texts.{fault_text}
use Rattle.oracle.specs.Setup.{Setup}
use Rattle.pages.specs.Left.{left}
use Rattle.polygon.specs.declared.subject.Polygon as polygons
use Rattle.regions.specs.Views.{setup_of}
use Rattle.regions.specs.declared.subject.Regions as regions
use Rattle.sheets.specs.declared.fault.Fault as faults
use Rattle.triangulations.specs.Census as triangulations
use Rattle.printouts.specs.declared.sheet_pager.Pages.{Pages}
use Rattle.printouts.specs.declared.sheet_pager.Pages.TheVariants.{Regions, Polygon, Fault}
use Rattle.printouts.specs.declared.sheet_pager.SheetPager.{SheetPager}

-- The set-up of a cap over each subject.
abbrev pub capped_map : Cap regions.Regions → Setup
capped_map c = capped c.most (setup_of c.below)

abbrev pub capped_polygon : Cap polygons.Polygon → Setup
capped_polygon c = capped c.most (triangulations.polygon c.below.outline.n)

-- They are what the interface to an oracle says of each.
abbrev pub SetUps : (Cap regions.Regions → Setup) → (Cap polygons.Polygon → Setup) → Type 0
SetUps of_map of_polygon =
    ((c : Cap regions.Regions) → of_map c ≡ capped_map c)
    × ((c : Cap polygons.Polygon) → of_polygon c ≡ capped_polygon c)

-- The line of a fault that is not written yet.
abbrev pub fault_left : Option faults.Fault → List (List ℕ)
fault_left (Some f) = fault_text f ∷ []
fault_left None = []

abbrev pub pages_left : Pages → List (List ℕ)
pages_left (Regions pager) = left capped_map pager
pages_left (Polygon pager) = left capped_polygon pager
pages_left (Fault fault) = fault_left fault

abbrev pub sheet_left : SheetPager → List (List ℕ)
sheet_left pager = pages_left pager.pages
