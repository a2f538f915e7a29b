-- What making answers.
use Rattle.std.proofs.Common.{◌≡◌, ℕ, ◌≤◌, ◌&&◌, leb, List, Ok, Err, sym, ap, ◌∙◌}
use Rattle.std.proofs.lemmas.Bool.{cond-true, and_from, le-leb}
use Rattle.oracle.specs.Setup.{Code}
use Rattle.refusals.specs.declared.Refusal.TheVariants.{OutOfRange}
use Rattle.triangulations.specs.Census.{polygon}
use Rattle.triangulations.specs.Codes.{code_of}
use Rattle.triangulations.specs.Moves.{fan}
use Rattle.triangulations.proofs.Fans.{fan_small, fan_triangulation}
use Rattle.polygon.proofs.Steps.{Settled, settled}
use Rattle.polygon.specs.Rows.{Tied}
use Rattle.polygon.specs.Views.{begun}

pub begun_good : (n : ℕ) (v : Code) → 3 ≤ n → n ≤ 24 → v ≡ code_of (fan n) → Ok (polygon n, v) ≡ begun n
begun_good n v large few e =
    ap (λ (x : Code). Ok (polygon n, x)) e
    ∙ sym (cond-true (leb 3 n && leb n 24) (Ok (polygon n, (polygon n).root)) (Err OutOfRange) (and_from (leb 3 n) (leb n 24) (le-leb 3 n large) (le-leb n 24 few)))

-- the rows of the fan
pub fan_settled : {n : ℕ} {rows : List ℕ} → Tied n (fan n) rows → 3 ≤ n → n ≤ 24 → Settled n (fan n) rows
fan_settled {n = n} {rows = rows} tie large few = settled n (fan n) rows (fan_small n) (fan_triangulation n large few) tie
