use Rattle.std.proofs.Common.{rules, ◌≡◌, ◌+◌, ◌<◌, ◌≤◌, ◌∷◌, length, get_or, drop, sym, ap, ◌∙◌, arith}
use Rattle.std.proofs.lemmas.List.{drop_more}
use Rattle.std.specs.Iterator.Adapters.{zip_first, zip_second}
use Rattle.std.specs.Slice.Iter.{iter_rest}
use Rattle.digits.specs.Bits.{bit, count}
use Rattle.maps.specs.Touch.{touches, pair_total}
use Rattle.maps.proofs.Tables.{pair_total_more}
use Rattle.maps.proofs.map.Map.pair_count.Goals as goal

pub loop-row-init : goal.loop-row-init
unfolding pair_total
loop-row-init c = search rules

pub loop-row-preserved : goal.loop-row-preserved
loop-row-preserved c =
    let j = (zip_second c.loop-row.row-iterator).start in
    let rows = c.args.self.now.rows in
    let first : iter_rest (zip_first c.loop-row.row-iterator) ≡ c.in-Some.row.now ∷ iter_rest (zip_first c.next.new.self) = search rules in
    let at : c.in-Some.j ≡ j = search rules in
    let on : (zip_second c.next.new.self).start ≡ j + 1 = search rules in
    let end : (zip_second c.next.new.self).end ≡ c.args.self.now.n = search rules in
    let few : (zip_second c.next.new.self).start ≤ c.args.self.now.n = search rules in
    let within : j < length rows = search rules in
    let cut = drop_more rows j 0 within in
    let row : c.in-Some.row.now ≡ get_or rows j 0 = cc in
    let rest : iter_rest (zip_first c.next.new.self) ≡ drop (j + 1) rows = cc in
    let more = pair_total_more rows j in
    let counted : c.lower-total.result ≡ count j (touches rows j) =
    c.lower-total.ensures.value ∙ ap (λ k. count k (bit c.in-Some.row.now)) at ∙ ap (λ x. count j (bit x)) row in
    let next : pair_total rows (zip_second c.next.new.self).start ≡ pair_total rows (j + 1) = ap (pair_total rows) on in
    ((tt, tt), tt, rest ∙ ap (λ k. drop k rows) (sym on), end, few, omega (arith, counted, more, next, c.loop-row.invariant.5), search rules)
