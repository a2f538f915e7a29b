use Rattle.std.proofs.Common.{refl, arith}
use Rattle.oracle.proofs.Limits.{within, single_lawful, widest_lawful}
use Rattle.oracle.proofs.theory.limits_stand.Goals as goal

pub returns : goal.returns
returns c =
    record {
      within = within;
      each = single_lawful;
      widest = widest_lawful;
      ceiling = refl;
      exact = λ n le. omega arith;
      stays = λ n le. omega arith;
    }
