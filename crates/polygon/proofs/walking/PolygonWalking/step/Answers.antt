use Rattle.std.proofs.Common.{ℕ, Some, Ok, refl, ap, ◌∙◌, arith}
use Rattle.pairs.specs.Pairs.{number}
use Rattle.triangulations.specs.Codes.{code_of}
use Rattle.polygon.specs.Rows.{set_of, common, two_lowest}
use Rattle.polygon.proofs.Stepping.{step_none, step_done}
use Rattle.polygon.proofs.Standing.{current_set, kept, same_set, is_member, no_member}
use Rattle.polygon.proofs.Steps.{apexes_found, apexes_small, after_step}
use Rattle.polygon.proofs.walking.PolygonWalking.step.Goals as goal

pub returns-then-not-has : goal.returns-then-not-has
returns-then-not-has c =
    let p = c.args.self.now in
    let out = no_member p c.args.slot c.has.result c.has.ensures c.if-not-has.true in
    record {
      sound = c.requires;
      setup = refl;
      moved = step_none p.outline.n (current_set p) c.args.slot (same_set p) out (omega (arith, c.pair_total.ensures.value));
      called = refl;
    }

pub apexes-across-requires : goal.apexes-across-requires
apexes-across-requires c =
    let p = c.args.self.now in
    let m = is_member p c.args.slot c.has.result c.has.ensures c.if-not-has.false in
    let r = c.at-line.result in
    (apexes_small p.outline.n (current_set p) p.rows.0 (kept p) c.args.slot m (r.a, r.b) c.at-line.ensures (two_lowest (common p.rows.0 r.a r.b)) refl).1

pub invariant_of-self : goal.invariant_of-self
invariant_of-self c =
    let p = c.args.self.now in
    let m = is_member p c.args.slot c.has.result c.has.ensures c.if-not-has.false in
    let s = after_step p.outline.n (current_set p) p.rows.0 (kept p) c.args.slot m (c.at-line.result.a, c.at-line.result.b) c.at-line.ensures
    (c.apexes-across.result.a, c.apexes-across.result.b) c.apexes-across.ensures c.switch.new.self.0 c.switch-2.new.self.0 c.switch.ensures c.switch-2.ensures (omega arith) in
    record { whole = s.whole; tied = s.tied }

pub returns : goal.returns
returns c =
    let p = c.args.self.now in
    let m = is_member p c.args.slot c.has.result c.has.ensures c.if-not-has.false in
    let q : ℕ × ℕ = (c.apexes-across.result.a, c.apexes-across.result.b) in
    let f = apexes_found p.outline.n (current_set p) p.rows.0 (kept p) c.args.slot m (c.at-line.result.a, c.at-line.result.b) c.at-line.ensures q c.apexes-across.ensures in
    let s = after_step p.outline.n (current_set p) p.rows.0 (kept p) c.args.slot m (c.at-line.result.a, c.at-line.result.b) c.at-line.ensures
    q c.apexes-across.ensures c.switch.new.self.0 c.switch-2.new.self.0 c.switch.ensures c.switch-2.ensures (omega arith) in
    let w = code_of (set_of p.outline.n c.switch-2.new.self.0) in
    record {
      sound = c.requires;
      setup = refl;
      moved =
          ap (λ (x : ℕ). (Ok (Some x), w)) c.number.ensures
          ∙ step_done p.outline.n (current_set p) c.args.slot (number q.0 q.1) w (same_set p) m f.replaces (ap code_of s.same)
          (omega (arith, c.pair_total.ensures.value));
      called = refl;
    }
