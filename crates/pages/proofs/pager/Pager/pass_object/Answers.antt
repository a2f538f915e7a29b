use Rattle.std.proofs.Common.{◌≡◌, ℕ, ◌++◌, vec_items, vec_capacity, refl, ap, ◌∙◌, arith}
use Rattle.pages.proofs.Passing.{is_due, passes}
use Rattle.pages.proofs.pager.Pager.pass_object.Goals as goal
use Rattle.pages.proofs.pager.Pager.pass_object.Goals.{then-is_printed+in_ok-write_object, else-is_printed}
use Rattle.pages.specs.Lines.{spot_line}

pub one_more-self-requires : goal.one_more-self-requires
one_more-self-requires g c =
    let W = g.O.Walking in
    let self = c.args.self.now in
    let o = self.census.oracle in
    let due = is_due (W.setup o) self.census.view self.most self.printed c.args.rank c.requires.due in
    due.fewer

pub returns : goal.returns
returns g c =
    let W = g.O.Walking in
    let self = c.args.self.now in
    let o = self.census.oracle in
    let s = W.setup o in
    let due = is_due s self.census.view self.most self.printed c.args.rank c.requires.due in
    elim c.if-is_printed.branch [
      | then-is_printed+in_ok-write_object w ↦
          let mid = c.if-is_printed.self in
          let at_mid = w.self-is in
          let same = ap (λ q. W.setup q.census.oracle) at_mid in
          record {
            same = c.next.ensures.setup ∙ same;
            lined =
                passes s self.census.view self.most self.printed (vec_items c.args.out.now) (vec_items c.if-is_printed.out) due.object (W.setup mid.census.oracle) (W.setup c.next.new.self.oracle) mid.census.view c.next.new.self.view c.next.result mid.most mid.printed self.done mid.done
                due.stands
                due.fewer
                c.requires.undone
                same
                (ap (λ q. q.census.view) at_mid)
                (ap (λ q. q.most) at_mid)
                (ap (λ q. q.printed) at_mid ∙ w.one_more-self.ensures)
                (ap (λ q. q.done) at_mid)
                c.next.ensures.setup
                c.next.ensures.next
                (ap vec_items w.out-is
                ∙ w.in_ok-write_object.ensures.items
                ∙ ap (λ q. vec_items c.args.out.now ++ spot_line s q) due.stands);
            capacity = omega (arith, w.write_object.ensures.capacity, ap vec_capacity w.out-is);
            succeeds = λ _. refl;
          }
      | else-is_printed w ↦ let f = w.if-is_printed.ensures in let z : ◌≡◌ {A = ℕ} 0 1 = cc in absurd (omega arith)
    ]
