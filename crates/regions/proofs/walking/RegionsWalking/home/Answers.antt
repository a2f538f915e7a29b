use Rattle.std.proofs.Common.{sym, ap, ◌∙◌}
use Rattle.masks.proofs.Codes.{number_code}
use Rattle.connected.specs.Sets.{set_home}
use Rattle.regions.proofs.Coded.{set_fits}
use Rattle.regions.proofs.walking.RegionsWalking.home.Goals as goal

pub returns : goal.returns
returns c =
    let r = c.args.self.now in
    c.first_to_leave.ensures ∙ ap (set_home r.map.n r.map.rows) (sym (number_code r.set (set_fits r)))
