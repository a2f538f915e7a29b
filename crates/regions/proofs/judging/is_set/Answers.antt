use Rattle.std.proofs.Common.{◌^◌, ltb, sym, ap, ◌∙◌}
use Rattle.std.proofs.lemmas.Bool.{ltb-true}
use Rattle.regions.proofs.Coded.{judged, is_set_out}
use Rattle.regions.proofs.judging.is_set.Goals as goal

pub returns-then-within : goal.returns-then-within
returns-then-within c =
    let s = c.args.set in
    let m = c.args.map.now in
    let inside = ltb-true s (2 ^ m.n) (sym (c.if-within.ensures ∙ ap (λ k. ltb s (2 ^ k)) c.regions.ensures.value)) in
    judged m s c.joins.result inside c.joins.ensures

pub returns-else-within : goal.returns-else-within
returns-else-within c =
    let s = c.args.set in
    let m = c.args.map.now in
    c.if-within.false ∙ is_set_out m.n m.rows s (c.if-within.ensures ∙ ap (λ k. ltb s (2 ^ k)) c.regions.ensures.value)
