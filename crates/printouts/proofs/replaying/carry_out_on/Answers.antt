use Rattle.std.proofs.Common.{replicate, take, rules, arith}
use Rattle.std.proofs.lemmas.List.{take-replicate}
use Rattle.printouts.proofs.Carrying.{carried_with}
use Rattle.printouts.proofs.replaying.carry_out_on.Goals as goal

pub whole_as_front-carry_out : goal.whole_as_front-carry_out
whole_as_front-carry_out g c = (c.requires.size, omega (arith, c.requires.most))

pub returns : goal.returns
returns g c =
    let same =
    carried_with g.O.Walking.setup c.args.census.now c.carry_out.new.census c.args.out.now c.carry_out.new.out c.carry_out.result c.args.act
    (take c.args.size (replicate g.row.MOST 238)) (replicate c.args.size 238) (take-replicate c.args.size g.row.MOST 238 c.requires.size) in
    search rules
