use Rattle.std.proofs.Common.{rules, ◌≡◌, length, Err, true, false, sym, refl, ap, ◌∙◌, subst}
use Rattle.std.proofs.lemmas.Bool.{iff_false}
use Rattle.refusals.specs.declared.Refusal.TheVariants.{NotACode}
use Rattle.oracle.specs.Setup.{Code}
use Rattle.triangulations.specs.Codes.{members, code_of}
use Rattle.triangulations.specs.Search.{every}
use Rattle.polygon.specs.Rows.{Tied, set_of, fits}
use Rattle.polygon.specs.Views.{current_of}
use Rattle.polygon.proofs.Taking.{take_refused, take_granted, no_row, judged, taken_rows, taken_code}
use Rattle.polygon.proofs.coding.PolygonCoded.take.Goals as goal

pub returns-in_err-row : goal.returns-in_err-row
returns-in_err-row c =
    let p = c.args.self.now in
    let n = p.outline.n in
    let row = c.args.row.now in
    let refused : c.from_residual.result ≡ Err NotACode = search rules in
    let none = no_row n row (iff_false c.as_array.ensures.variant (sym c.in_err-row.ensures.variant)) in
    record { sound = c.requires; setup = refl; moved = rw refused (take_refused n (current_of p) row none); called = refl }

pub returns-then-not-all_fit : goal.returns-then-not-all_fit
returns-then-not-all_fit c =
    let p = c.args.self.now in
    let n = p.outline.n in
    let row = c.args.row.now in
    let rows = c.gathered-rows.result.0 in
    let same : c.in_ok-row.row.now ≡ row = search rules in
    let long : length row ≡ 35 = c.as_array.ensures.variant.0 (rw c.in_ok-row.ensures.ok_part refl) in
    let tie = subst (λ (v : Code). Tied n (members v) rows) same c.gathered-rows.ensures in
    let none = ap (λ (v : Code). every 280 (fits n v rows)) (sym same) ∙ sym c.all_fit.ensures ∙ c.if-not-all_fit.true in
    record {
      sound = c.requires;
      setup = refl;
      moved = take_refused n (current_of p) row (judged n row rows p.outline.few long (λ i. (c.type_inv.row i).fits) tie false none);
      called = refl;
    }

pub invariant_of-self : goal.invariant_of-self
invariant_of-self c =
    let p = c.args.self.now in
    let n = p.outline.n in
    let row = c.args.row.now in
    let rows = c.gathered-rows.result.0 in
    let same : c.in_ok-row.row.now ≡ row = search rules in
    let long : length row ≡ 35 = c.as_array.ensures.variant.0 (rw c.in_ok-row.ensures.ok_part refl) in
    let tie = subst (λ (v : Code). Tied n (members v) rows) same c.gathered-rows.ensures in
    let whole = ap (λ (v : Code). every 280 (fits n v rows)) (sym same) ∙ sym c.all_fit.ensures ∙ c.if-not-all_fit.false in
    let s = taken_rows n row rows p.outline.few long (λ i. (c.type_inv.row i).fits) tie whole in
    record { whole = s.whole; tied = s.tied }

pub returns : goal.returns
returns c =
    let p = c.args.self.now in
    let n = p.outline.n in
    let row = c.args.row.now in
    let rows = c.gathered-rows.result.0 in
    let same : c.in_ok-row.row.now ≡ row = search rules in
    let long : length row ≡ 35 = c.as_array.ensures.variant.0 (rw c.in_ok-row.ensures.ok_part refl) in
    let tie = subst (λ (v : Code). Tied n (members v) rows) same c.gathered-rows.ensures in
    let whole = ap (λ (v : Code). every 280 (fits n v rows)) (sym same) ∙ sym c.all_fit.ensures ∙ c.if-not-all_fit.false in
    record {
      sound = c.requires;
      setup = refl;
      moved =
          take_granted n (current_of p) (code_of (set_of n rows)) row
          (judged n row rows p.outline.few long (λ i. (c.type_inv.row i).fits) tie true whole)
          (taken_code n row rows p.outline.few long (λ i. (c.type_inv.row i).fits) tie whole);
      called = refl;
    }
