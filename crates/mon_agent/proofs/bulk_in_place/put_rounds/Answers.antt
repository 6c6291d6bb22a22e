use Rattle.std.proofs.Common.{◌∙◌, ◌-◌, ◌+◌, ◌++◌, subst}
use Rattle.mon_mib.specs.Search.{IsSeenIn, known_in}
use Rattle.mon_agent.specs.Bulk.{rounds}
use Rattle.mon_agent.specs.Filling.{FitsIn, IsRoundPut}
use Rattle.mon_agent.proofs.Filling.{round_follows, rounds_end, rounds_stop}
use Rattle.mon_agent.proofs.Rounds.{none_left, one_less}
use Rattle.mon_agent.proofs.bulk_in_place.put_rounds.Goals as goal

pub returns-in_default : goal.returns-in_default
returns-in_default g c = λ before is.
    let at = c.loop in
    let held = g.D.Device.held in
    let sought = c.args.search.now in
    let n = c.args.plan.now.rounds in
    let so_far = at.invariant.put before is in
    rounds_stop (known_in held sought) (IsSeenIn sought) (FitsIn c.args.plan.now) (λ next. before ++ rounds next n c.args.names.now) c.in_ok-put_round.field-0
    (n - at.counter) (n - (at.counter + 1)) at.names c.put_round.new.names at.list.items c.put_round.new.list.items
    c.in_default.not-More (one_less n at.counter c.loop-test.true) so_far
    (subst (λ s. IsRoundPut (known_in held s) (IsSeenIn s) (FitsIn c.args.plan.now) c.in_ok-put_round.field-0 so_far.reply at.names c.put_round.new.names c.put_round.new.list.items) at.invariant.stays
    (c.in_ok-put_round.ensures.put so_far.reply so_far.put))

pub loop-preserved : goal.loop-preserved
loop-preserved g c =
    let at = c.loop in
    let held = g.D.Device.held in
    let sought = c.args.search.now in
    let n = c.args.plan.now.rounds in
    record {
      stays = c.put_round.ensures.stays ∙ at.invariant.stays;
      put = λ before is.
          let so_far = at.invariant.put before is in
          round_follows (known_in held sought) (IsSeenIn sought) (FitsIn c.args.plan.now) (λ next. before ++ rounds next n c.args.names.now)
          (n - at.counter) (n - (at.counter + 1)) at.names c.put_round.new.names at.list.items c.put_round.new.list.items (one_less n at.counter c.loop-test.true) so_far
          (subst (λ r. IsRoundPut (known_in held sought) (IsSeenIn sought) (FitsIn c.args.plan.now) r so_far.reply at.names c.put_round.new.names c.put_round.new.list.items) c.in-More.is
          (subst (λ s. IsRoundPut (known_in held s) (IsSeenIn s) (FitsIn c.args.plan.now) c.in_ok-put_round.field-0 so_far.reply at.names c.put_round.new.names c.put_round.new.list.items) at.invariant.stays
          (c.in_ok-put_round.ensures.put so_far.reply so_far.put)));
    }

pub returns : goal.returns
returns g c = λ before is.
    let at = c.loop in
    let sought = c.args.search.now in
    let n = c.args.plan.now.rounds in
    rounds_end (known_in g.D.Device.held sought) (IsSeenIn sought) (FitsIn c.args.plan.now) (λ next. before ++ rounds next n c.args.names.now)
    (n - at.counter) at.names at.list.items (none_left n at.counter c.loop-test.false) (at.invariant.put before is)
