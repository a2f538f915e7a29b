use Rattle.protocols.specs.Values.{bytes_of}
use Rattle.protocols.proofs.Arrays.{length_differs, length_told}
use Rattle.printouts.proofs.Carrying.{carried_refused, carried_with}
use Rattle.engine.specs.declared.act.Act.TheVariants.{Resume}
use Rattle.printouts.proofs.replaying.resume.Goals as goal

pub returns-in-Some : goal.returns-in-Some
returns-in-Some g c =
    carried_with g.O.Walking.setup c.args.census.now c.carry_out.new.census c.args.out.now c.carry_out.new.out c.carry_out.result (Resume c.args.job)
    c.in-Some.block (bytes_of c.args.digits.now) (length_told 512 (bytes_of c.args.digits.now) c.in-Some.block c.in-Some.ensures) c.carry_out.ensures

pub returns-in-None : goal.returns-in-None
returns-in-None g c =
    carried_refused g.O.Walking.setup c.args.census.now _ c.args.out.now _ _ c.args.job
    (bytes_of c.args.digits.now) (length_differs 512 (bytes_of c.args.digits.now) c.in-None.ensures) c.carry_out-in-None.ensures
