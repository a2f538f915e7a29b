use Rattle.std.proofs.Common.{◌≡◌, ℕ, ◌-◌, ◌*◌, ◌/◌, ◌^◌, ap, arith}
use Rattle.std.proofs.lemmas.Nat.{mul-le}
use Rattle.pairs.specs.Pairs.{pair_count}
use Rattle.pairs.proofs.pair_total.Goals as goal

pub returns : goal.returns
unfolding pair_count
returns c =
    let less : c.saturating_sub.result ≡ c.args.n - 1 = c.saturating_sub.ensures in
    record {
      value = ap (λ (x : ℕ). c.args.n * x / 2) less;
      small = omega (arith, mul-le c.args.n c.saturating_sub.result (2 ^ 32 - 1) (2 ^ 32 - 1) (omega arith) (omega arith));
    }
