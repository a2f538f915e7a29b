use Rattle.std.proofs.Common.{◌≡◌, ◌+◌, ◌≤◌, true, is_ok, rules, subst, vec_items, vec_len, vec_capacity}
use Rattle.pages.specs.Turns.{Listed}
use Rattle.sheets.specs.Views.{plan_of}
use Rattle.printouts.proofs.replaying.replay_plan.Goals as goal
use Rattle.printouts.specs.Left.{capped_map, capped_polygon}
use Rattle.printouts.specs.Plans.{plan_setup}
use Rattle.printouts.specs.Printed.{protocol_lines, replay_room}

pub returns-in-Regions-clause-listed : goal.returns-in-Regions-clause-listed
returns-in-Regions-clause-listed c =
    let same : capped_map c.new-in-Regions.result ≡ plan_setup (plan_of c.args.plan) = search rules in
    subst (λ s. Listed (vec_items c.args.out.now) (protocol_lines s c.args.acts.now) c.replay_protocol.result (vec_items c.replay_protocol.new.out))
    same c.replay_protocol.ensures.listed

pub returns-in-Regions-clause-succeeds : goal.returns-in-Regions-clause-succeeds
returns-in-Regions-clause-succeeds c =
    let same : capped_map c.new-in-Regions.result ≡ plan_setup (plan_of c.args.plan) = search rules in
    subst (λ s. vec_len c.args.out.now + replay_room (protocol_lines s c.args.acts.now) ≤ vec_capacity c.args.out.now → is_ok c.replay_protocol.result ≡ true)
    same c.replay_protocol.ensures.succeeds

pub returns-in-Polygon-clause-listed : goal.returns-in-Polygon-clause-listed
returns-in-Polygon-clause-listed c =
    let same : capped_polygon c.new-in-Polygon.result ≡ plan_setup (plan_of c.args.plan) = search rules in
    subst (λ s. Listed (vec_items c.args.out.now) (protocol_lines s c.args.acts.now) c.replay_protocol-in-Polygon.result (vec_items c.replay_protocol-in-Polygon.new.out))
    same c.replay_protocol-in-Polygon.ensures.listed

pub returns-in-Polygon-clause-succeeds : goal.returns-in-Polygon-clause-succeeds
returns-in-Polygon-clause-succeeds c =
    let same : capped_polygon c.new-in-Polygon.result ≡ plan_setup (plan_of c.args.plan) = search rules in
    subst (λ s. vec_len c.args.out.now + replay_room (protocol_lines s c.args.acts.now) ≤ vec_capacity c.args.out.now → is_ok c.replay_protocol-in-Polygon.result ≡ true)
    same c.replay_protocol-in-Polygon.ensures.succeeds
