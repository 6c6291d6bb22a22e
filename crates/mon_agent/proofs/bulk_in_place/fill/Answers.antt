use Rattle.std.proofs.Common.{◌≡◌, ◌∙◌, ◌++◌, min, [], length, subst, rules}
use Rattle.mon_mib.specs.Search.{IsSeenIn, known_in}
use Rattle.mon_agent.specs.Bulk.{rounds}
use Rattle.mon_agent.specs.Filling.{FitsIn, IsFilled, IsRoundPut}
use Rattle.mon_agent.proofs.Filling.{all_put, left_out, on_some, once_cut, taken, then_rounds}
use Rattle.mon_agent.proofs.bulk_in_place.fill.Goals as goal

pub returns-in-Full : goal.returns-in-Full
returns-in-Full g c =
    let known = known_in g.D.Device.held c.args.search.now in
    let sees = IsSeenIn c.args.search.now in
    let fits = FitsIn c.args.plan.now in
    let once = c.args.plan.now.once in
    let names = c.args.names.now in
    let least : c.min-once.result ≡ min once (length names) = search rules in
    let parts = c.split_at_mut-once in
    once_cut known sees fits once c.args.plan.now.rounds names parts.result.0.now parts.result.1.now c.put_round.new.names c.put_round.new.list.items
    (parts.ensures.front ∙ taken once c.min-once.result names least) (parts.ensures.back ∙ left_out once c.min-once.result names least)
    (subst (λ r. IsRoundPut known sees fits r [] parts.result.0.now c.put_round.new.names c.put_round.new.list.items) c.in-Full.is (c.in_ok-put_round.ensures.put [] c.requires))

pub returns-in_default : goal.returns-in_default
returns-in_default g c =
    let held = g.D.Device.held in
    let known = known_in held c.args.search.now in
    let sees = IsSeenIn c.args.search.now in
    let fits = FitsIn c.args.plan.now in
    let once = c.args.plan.now.once in
    let n = c.args.plan.now.rounds in
    let names = c.args.names.now in
    let least : c.min-once.result ≡ min once (length names) = search rules in
    let parts = c.split_at_mut-once in
    let put = c.in_ok-put_round.ensures.put [] c.requires in
    on_some c.put_rounds.result
    (λ filled.
    then_rounds known sees fits once n names parts.result.0.now parts.result.1.now c.put_round.new.names c.put_round.new.list.items
    (parts.ensures.front ∙ taken once c.min-once.result names least) (parts.ensures.back ∙ left_out once c.min-once.result names least)
    put.reply c.put_rounds.new.list.items
    (all_put known sees fits c.in_ok-put_round.field-0 parts.result.0.now c.put_round.new.names c.put_round.new.list.items c.in_default.not-Full put)
    (subst (λ s. IsFilled (known_in held s) (IsSeenIn s) fits (λ next. put.reply ++ rounds next n parts.result.1.now) c.put_rounds.new.list.items) c.put_round.ensures.stays filled))
    (c.put_rounds.ensures put.reply put.put)
