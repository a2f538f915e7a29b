use Rattle.regions.proofs.Coded.{rank_ones, set_below, set_fits}
use Rattle.regions.proofs.walking.RegionsWalking.rank.Goals as goal

pub returns : goal.returns
returns c =
    let r = c.args.self.now in
    rank_ones r.map.n r.set (set_below r) (set_fits r)
