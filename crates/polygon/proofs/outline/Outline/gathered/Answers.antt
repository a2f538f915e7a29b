use Rattle.std.proofs.Common.{◌≡◌, ℕ, sym, ap, ◌∙◌, subst, arith}
use Rattle.std.proofs.lemmas.Bool.{both_ways}
use Rattle.triangulations.proofs.Bytes.{members_small}
use Rattle.triangulations.specs.Codes.{members}
use Rattle.polygon.specs.Rows.{Tied, bare}
use Rattle.polygon.specs.declared.rows.Rows.{Rows}
use Rattle.polygon.proofs.Gathering.{first_of, first_start, first_end, gathered_in, gathered_out}
use Rattle.polygon.proofs.Agreement.{tied_same}
use Rattle.polygon.proofs.outline.Outline.gathered.Goals as goal
use Rattle.polygon.proofs.outline.Outline.gathered.Goals.{then-is_diagonal+then-digit-eq1, else-is_diagonal, else-is_diagonal-via-then-is_diagonal+else-digit-eq1, else-is_diagonal-via-else-is_diagonal}

pub loop-e-init : goal.loop-e-init
loop-e-init c =
    let S = members c.args.row.now in
    (omega arith, tied_same c.args.self.n bare (first_of S 0) c.args.self.few (first_start c.args.self.n S) c.side_rows-rows.result.0 c.side_rows-rows.ensures)

pub loop-e-preserved : goal.loop-e-preserved
loop-e-preserved c =
    let S = members c.args.row.now in
    let e = c.loop-e.e in
    let rows = c.loop-e.rows.0 in
    let after = c.if-is_diagonal.rows.0 in
    let skipped = gathered_out c.args.self.n S e rows c.args.self.few c.loop-e.invariant (c.at-line.result.a, c.at-line.result.b) c.at-line.ensures in
    elim c.if-is_diagonal.branch [
      | then-is_diagonal+then-digit-eq1 w ↦
          gathered_in c.args.self.n S e rows c.args.self.few c.loop-e.invariant (c.at-line.result.a, c.at-line.result.b) c.at-line.ensures
          (sym w.if-is_diagonal.ensures) (sym w.digit.ensures ∙ w.if-digit-eq1.true) after (ap (λ (r : Rows). r.0) w.rows-is ∙ w.switch.ensures)
      | else-is_diagonal w ↦
          elim w.else-is_diagonal.branch [
            | else-is_diagonal-via-then-is_diagonal+else-digit-eq1 w' ↦
                skipped (λ h. omega (arith, members_small c.args.row.now e, w'.digit.ensures, w'.if-digit-eq1.false)) after (ap (λ (r : Rows). r.0) w.rows-is)
            | else-is_diagonal-via-else-is_diagonal w' ↦
                skipped (λ h. absurd (both_ways _ (sym w'.if-is_diagonal.ensures) h)) after (ap (λ (r : Rows). r.0) w.rows-is)
          ]
    ]

pub returns : goal.returns
returns c =
    let S = members c.args.row.now in
    let end : c.loop-e.e ≡ 276 = omega arith in
    tied_same c.args.self.n (first_of S 276) S c.args.self.few (first_end c.args.self.n S) c.loop-e.rows.0
    (subst (λ (x : ℕ). Tied c.args.self.n (first_of S x) c.loop-e.rows.0) end c.loop-e.invariant.1)
