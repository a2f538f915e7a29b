-- What is told of a fault and of a subject.
use Rattle.std.specs.Prelude.{ℕ, List, ◌++◌, codes, decimal}
use Rattle.std.specs.Option.{unwrap_or}
use Rattle.refusals.specs.Numbers.{number_of, layer_of}
use Rattle.maps.specs.Touch.{pair_total}
use Rattle.sheets.specs.Settings.{Topic, regions, polygon}
use Rattle.sheets.specs.declared.fault.Fault.{Fault}

abbrev pub fault_words : Fault → List ℕ
fault_words f =
    codes "fault " ++ (decimal (number_of f.refusal) ++ (codes " line " ++ (decimal f.line
    ++ (codes " layer " ++ decimal (unwrap_or (layer_of f.refusal) 0)))))

-- the pairs that touch, each counted once
abbrev pub pairs_of : Topic → ℕ
pairs_of (regions m) = pair_total m.rows m.count_of
pairs_of (polygon n) = 0
