use Rattle.std.proofs.Common.{◌≡◌, ℕ, ◌+◌, ◌≤◌, vec_items, vec_len, vec_capacity, sym, ap, ◌∙◌, subst, arith}
use Rattle.std.proofs.lemmas.Grind.{common_steps}
use Rattle.pages.proofs.Onward.{pages_on, pages_end, room_onward, short_on, stopped_short}
use Rattle.pages.proofs.listing.list_rest.Goals as goal
use Rattle.pages.specs.Left.{left}
use Rattle.pages.specs.Lines.{line_room, page_room}

pub returns-in_err-page : goal.returns-in_err-page
returns-in_err-page g c =
    let W = g.O.Walking in
    let stop = c.in_err-page.ensures.paged in
    let n = c.pages.invariant.turns in
    let far = pages_on stop.0 n (vec_items c.args.out.now) (vec_items c.pages.out) (vec_items c.page.new.out) (left W.setup c.args.pager) (left W.setup c.pages.pager) (left W.setup c.page.new.self) c.pages.invariant.turned_so_far stop.3 in
    let some = short_on stop.0 n (vec_items c.args.out.now) (vec_items c.pages.out) (left W.setup c.args.pager) (left W.setup c.pages.pager) c.pages.invariant.turned_so_far stop.2 in
    let l = c.pages in
    let s = W.setup c.args.pager.census.oracle in
    record {
      listed =
          stopped_short c.from_residual.result (n + stop.0) (vec_items c.args.out.now) (vec_items c.page.new.out) _ c.from_residual.ensures.0 some
          (ap (λ x. x.0) far);
      capacity = omega (arith, c.page.ensures.capacity, c.pages.invariant.capacity);
      succeeds = λ enough.
          let room = room_onward c.max-lines.result n (line_room s) c.args.out.now l.out (left W.setup c.args.pager) (left W.setup l.pager) l.invariant.capacity l.invariant.turned_so_far enough in
          let f = c.in_err-page.ensures.succeeds (subst (λ t. vec_len l.out + page_room t c.max-lines.result (left W.setup l.pager) ≤ vec_capacity l.out) (sym l.invariant.setup_same) room) in
          let z : ◌≡◌ {A = ℕ} 0 1 = cc in
          absurd (omega arith);
    }

pub returns-then-branch-clause-listed : goal.returns-then-branch-clause-listed
returns-then-branch-clause-listed g c =
    let W = g.O.Walking in
    let h = c.in_ok-page.ensures.paged in
    pages_end c.in_ok-page.field-0 c.max-lines.result c.pages.invariant.turns (vec_items c.args.out.now) (vec_items c.pages.out) (vec_items c.page.new.out) (left W.setup c.args.pager) (left W.setup c.pages.pager) (left W.setup c.page.new.self) c.pages.invariant.turned_so_far h.0 c.if-branch.true h.1

pub pages-preserved : goal.pages-preserved
pages-preserved g c =
    let W = g.O.Walking in
    let h = c.in_ok-page.ensures in
    record {
      setup_same = h.setup ∙ c.pages.invariant.setup_same;
      capacity = omega (arith, h.capacity);
      turns = c.pages.invariant.turns + c.max-lines.result;
      turned_so_far =
          pages_on c.max-lines.result c.pages.invariant.turns (vec_items c.args.out.now) (vec_items c.pages.out) (vec_items c.page.new.out) (left W.setup c.args.pager) (left W.setup c.pages.pager) (left W.setup c.page.new.self) c.pages.invariant.turned_so_far h.paged.1;
    }

pub pages-smaller : goal.pages-smaller
pages-smaller g c = grind (arith, common_steps)
