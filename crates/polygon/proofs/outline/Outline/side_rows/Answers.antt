use Rattle.std.proofs.Common.{◌≡◌, ℕ, rules}
use borrow.Author.Tests.{tests}
use Rattle.digits.specs.Bits.{bit}
use Rattle.triangulations.specs.Moves.{joined}
use Rattle.polygon.specs.Rows.{bare}
use Rattle.polygon.proofs.Ranges.{made_each}
use Rattle.polygon.proofs.SideRows.{side_rows_tied}
use Rattle.polygon.proofs.outline.Outline.side_rows.Goals as goal

pub returns : goal.returns
returns c =
    let n = c.args.self.n in
    let made = c.from_fn.ensures.items in
    side_rows_tied n c.from_fn.result c.args.self.few made.long
    (made_each _ _ (λ a r. (b : ℕ) → bit r b ≡ joined n bare a b) (λ x y q k. search (rules, tests)) c.from_fn.result 24 made)
