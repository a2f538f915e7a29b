use Rattle.std.proofs.Common.{◌≡◌, ℕ, ◌+◌, ◌≤◌, vec_items, vec_len, vec_capacity, sym, ap, ◌∙◌, subst, inl, inr, arith}
use Rattle.pages.proofs.Paging.{filled_short, page_ends, room_left, still_left}
use Rattle.pages.proofs.Turned.{turned_more}
use Rattle.pages.proofs.pager.Pager.fill.Goals as goal
use Rattle.pages.specs.Left.{left}
use Rattle.pages.specs.Lines.{line_room}
use Rattle.pages.specs.Turns.{turned}

pub lines-preserved : goal.lines-preserved
lines-preserved g c =
    let W = g.O.Walking in
    let from = left W.setup c.args.self.now in
    let bytes = vec_items c.args.out.now in
    record {
      setup_same = c.turn.ensures.same ∙ c.lines.invariant.setup_same;
      within = omega arith;
      capacity = omega (arith, c.turn.ensures.capacity);
      turned_so_far =
          c.in_ok-turn.ensures.lined
          ∙ ap (λ p. turned 1 p.0 p.1) c.lines.invariant.turned_so_far
          ∙ turned_more 1 c.lines.counter bytes from;
    }

pub returns-in_err-turn-clause-filled : goal.returns-in_err-turn-clause-filled
returns-in_err-turn-clause-filled g c =
    let W = g.O.Walking in
    let l = c.lines in
    let self = l.self in
    let some = still_left (W.setup self.census.oracle) self.census.view self.most self.printed self.done l.counter (left W.setup c.args.self.now) c.if-self.false (ap (λ p. p.1) l.invariant.turned_so_far) in
    filled_short c.from_residual.result l.counter c.args.limit (vec_items c.args.out.now) (left W.setup c.args.self.now) (vec_items c.turn.new.out, left W.setup c.turn.new.self) c.turn.new.self.done c.from_residual.ensures.0 c.lines-test.true some (c.in_err-turn.ensures.lined ∙ l.invariant.turned_so_far)

pub returns-in_err-turn-clause-succeeds : goal.returns-in_err-turn-clause-succeeds
returns-in_err-turn-clause-succeeds g c = λ enough.
    let W = g.O.Walking in
    let l = c.lines in
    let s = W.setup c.args.self.now.census.oracle in
    let room = room_left l.counter c.args.limit (line_room s) c.args.out.now l.out (left W.setup c.args.self.now) (left W.setup l.self) c.lines-test.true l.invariant.capacity l.invariant.turned_so_far enough in
    let f = c.in_err-turn.ensures.succeeds (subst (λ n. vec_len l.out + line_room n ≤ vec_capacity l.out) (sym l.invariant.setup_same) room) in
    let z : ◌≡◌ {A = ℕ} 0 1 = cc in
    absurd (omega arith)

pub returns-then-self-clause-filled : goal.returns-then-self-clause-filled
returns-then-self-clause-filled g c =
    let W = g.O.Walking in
    let l = c.lines in
    let self = l.self in
    page_ends (W.setup self.census.oracle) self.census.view self.most self.printed self.done l.counter c.args.limit (vec_items c.args.out.now) (vec_items l.out) (left W.setup c.args.self.now) l.invariant.within (inr c.if-self.true) l.invariant.turned_so_far

pub returns-after-lines-clause-filled : goal.returns-after-lines-clause-filled
returns-after-lines-clause-filled g c =
    let W = g.O.Walking in
    let l = c.lines in
    let self = l.self in
    page_ends (W.setup self.census.oracle) self.census.view self.most self.printed self.done l.counter c.args.limit (vec_items c.args.out.now) (vec_items l.out) (left W.setup c.args.self.now) l.invariant.within (inl c.lines-test.false) l.invariant.turned_so_far
