use Rattle.std.proofs.Common.{◌≡◌, ℕ, Bool, ◌&&◌, eqb, ap, ◌∙◌}
use mir.Val.{bool_byte}
use Rattle.triangulations.specs.Polygon.{is_diagonal}
use Rattle.polygon.specs.Rows.{is_free}
use Rattle.polygon.proofs.Taking.{fits_test}
use Rattle.polygon.proofs.outline.Outline.fits_at.Goals as goal
use Rattle.polygon.proofs.outline.Outline.fits_at.Goals.{then-is_diagonal, else-is_diagonal}

pub returns : goal.returns
returns c =
    let n = c.args.self.n in
    let rows = c.args.rows.now.0 in
    let r = c.at-line.result in
    let test : c.if-is_diagonal.fits ≡ (is_diagonal n (r.a, r.b) && is_free rows r.a r.b) =
    elim c.if-is_diagonal.branch [
      | then-is_diagonal w ↦ w.fits-is ∙ w.is_free-fits.ensures ∙ ap (λ (x : Bool). x && is_free rows r.a r.b) w.if-is_diagonal.ensures
      | else-is_diagonal w ↦ w.fits-is ∙ w.if-is_diagonal.false ∙ ap (λ (x : Bool). x && is_free rows r.a r.b) w.if-is_diagonal.ensures
    ] in
    ap (λ (x : ℕ). eqb x (bool_byte c.if-is_diagonal.fits)) c.digit.ensures
    ∙ fits_test n c.args.row.now rows c.args.e (r.a, r.b) c.at-line.ensures c.if-is_diagonal.fits test
