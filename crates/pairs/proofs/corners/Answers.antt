use Rattle.std.proofs.Common.{◌≡◌, ℕ, ◌≤◌, length, sym, subst, arith}
use Rattle.pairs.specs.Pairs.{corners_of, pairs_below, Entry}
use Rattle.pairs.proofs.Numbers.{entry, length_table}
use Rattle.pairs.proofs.corners.Goals as goal

pub returns-in-Some : goal.returns-in-Some
unfolding corners_of pairs_below
returns-in-Some c =
    let here : c.in-Some.field-0.now ≡ corners_of c.args.e = c.in-Some.ensures.lookup.4 (omega arith) (0, 0) in
    record { value = here; rule = λ h. subst (λ (p : ℕ × ℕ). Entry c.args.e p) (sym here) (entry c.args.e h) }

pub returns-in-None : goal.returns-in-None
unfolding corners_of pairs_below
returns-in-None c =
    let past : length (pairs_below 24) ≤ c.args.e = c.in-None.ensures.lookup.3 in
    record { value = c.in-None.ensures.lookup.4 (omega arith) (0, 0); rule = λ h. absurd (omega (arith, length_table)) }
