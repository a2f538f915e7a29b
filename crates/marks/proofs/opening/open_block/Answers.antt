use Rattle.std.proofs.Common.{rules, ◌≡◌, sym, ap, ◌∙◌}
use Rattle.std.proofs.lemmas.Bool.{eq-eqb, ne_eqb}
use Rattle.marks.proofs.Opens.{same_size, other_size}
use Rattle.marks.proofs.Told.{told}
use Rattle.marks.proofs.opening.open_block.Goals as goal
use Rattle.marks.specs.Layout.{edition}
use Rattle.marks.specs.Opening.{judged, opened, moved_to}

pub returns-clause-called : goal.returns-clause-called
returns-clause-called g c = search rules

pub returns-then-size-clause-moved : goal.returns-then-size-clause-moved
returns-then-size-clause-moved g c =
    let s = g.O.Walking.setup c.args.oracle.now in
    let v = g.O.Walking.current c.args.oracle.now in
    let row = c.in_ok-block.block.now in
    let same : row ≡ c.args.block.now = search rules in
    other_size s v row c.in_ok-size.size (judged (edition s) c.args.job row)
    (c.in_ok-size.ensures.judged ∙ ap (λ e. judged e c.args.job row) c.edition.ensures)
    (ne_eqb c.in_ok-size.size s.size (λ e. c.if-size.true (e ∙ sym c.size.ensures)))
    ∙ ap (λ b. moved_to v (opened c.args.job s b)) same

pub returns-clause-moved : goal.returns-clause-moved
returns-clause-moved g c =
    let s = g.O.Walking.setup c.args.oracle.now in
    let v = g.O.Walking.current c.args.oracle.now in
    let row = c.in_ok-block.block.now in
    let same : row ≡ c.args.block.now = search rules in
    c.take.ensures.moved
    ∙ same_size s v row c.in_ok-size.size (judged (edition s) c.args.job row)
    (c.in_ok-size.ensures.judged ∙ ap (λ e. judged e c.args.job row) c.edition.ensures)
    (eq-eqb c.in_ok-size.size s.size (c.if-size.false ∙ c.size.ensures))
    c.in_ok-size.ensures.size
    ∙ ap (λ b. moved_to v (opened c.args.job s b)) same

pub returns-in_err-block-clause-told : goal.returns-in_err-block-clause-told
returns-in_err-block-clause-told g c = told c.args.job (g.O.Walking.setup c.args.oracle.now) c.args.block.now

pub returns-in_err-size-clause-told : goal.returns-in_err-size-clause-told
returns-in_err-size-clause-told g c = told c.args.job (g.O.Walking.setup c.args.oracle.now) c.args.block.now

pub returns-then-size-clause-told : goal.returns-then-size-clause-told
returns-then-size-clause-told g c = told c.args.job (g.O.Walking.setup c.args.oracle.now) c.args.block.now

pub returns-clause-told : goal.returns-clause-told
returns-clause-told g c = told c.args.job (g.O.Walking.setup c.args.oracle.now) c.args.block.now
