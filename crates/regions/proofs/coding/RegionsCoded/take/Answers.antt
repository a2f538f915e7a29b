use Rattle.std.proofs.Common.{rules, ◌≡◌, Some}
use Rattle.regions.specs.Rows.{set_of_row}
use Rattle.regions.specs.Views.{current_of}
use Rattle.regions.proofs.Coded.{taken_set}
use Rattle.regions.proofs.coding.RegionsCoded.take.Goals as goal

pub returns-clause-moved : goal.returns-clause-moved
returns-clause-moved c =
    let m = c.args.self.now.map in
    let told : Some c.in_ok-self.field-0 ≡ set_of_row m.n m.rows c.args.row.now = search rules in
    taken_set m.n m.rows c.in_ok-self.field-0 (current_of c.args.self.now) c.args.row.now told

pub returns-in_err-self-clause-moved : goal.returns-in_err-self-clause-moved
returns-in_err-self-clause-moved c = search rules

pub invariant_of-self : goal.invariant_of-self
invariant_of-self c = search rules
