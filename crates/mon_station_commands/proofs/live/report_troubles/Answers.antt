use Rattle.std.proofs.Common.{◌∙◌, List, length, refl, subst}
use Rattle.mon_rounds.specs.Changes.{changes_between, others_of, told_by, troubles_after}
use Rattle.mon_rounds.specs.declared.changes.Change.{Change}
use Rattle.mon_rounds.specs.declared.freshness.TargetAge.{TargetAge}
use Rattle.mon_station_commands.specs.Notifying.{Chain, IfCarried, IsPut}
use Rattle.mon_station_commands.proofs.Changes.{half_said, some_said, untaken, whole_said}
use Rattle.mon_station_commands.proofs.Notified.{devices_fill, unfilled}
use Rattle.mon_station_commands.proofs.live.report_troubles.Goals as goal

pub returns-in_err-others-clause-said : goal.returns-in_err-others-clause-said
returns-in_err-others-clause-said g c =
    let live = c.args.live.now in
    let changes : List Change = changes_between (told_by live.troubles) (troubles_after live.reports.stale_after (told_by live.troubles) (others_of live.transport.rounds.latest.datagrams.items live.freshness.targets.items live.transport.engines.items (length live.freshness.targets.items)) live.freshness) in
    untaken live.freshness c.args.number changes c.from_residual.result (g.H.Host.log c.args.host.now) c.from_residual.ensures.1

pub returns-in_err-changes-clause-said : goal.returns-in_err-changes-clause-said
returns-in_err-changes-clause-said g c =
    let live = c.args.live.now in
    let changes : List Change = changes_between (told_by live.troubles) (troubles_after live.reports.stale_after (told_by live.troubles) (others_of live.transport.rounds.latest.datagrams.items live.freshness.targets.items live.transport.engines.items (length live.freshness.targets.items)) live.freshness) in
    untaken live.freshness c.args.number changes c.from_residual-in_err-changes.result (g.H.Host.log c.args.host.now) c.from_residual-in_err-changes.ensures.1

pub returns-in_err-tell_troubles-clause-said : goal.returns-in_err-tell_troubles-clause-said
returns-in_err-tell_troubles-clause-said g c =
    let live = c.args.live.now in
    let changes : List Change = changes_between (told_by live.troubles) (troubles_after live.reports.stale_after (told_by live.troubles) (others_of live.transport.rounds.latest.datagrams.items live.freshness.targets.items live.transport.engines.items (length live.freshness.targets.items)) live.freshness) in
    half_said live.freshness c.args.number changes c.from_residual-in_err-tell_troubles.result (g.H.Host.log c.args.host.now) (g.H.Host.log c.tell_troubles.new.host)
    c.from_residual-in_err-tell_troubles.ensures.1 c.in_err-tell_troubles.ensures

pub returns-clause-said : goal.returns-clause-said
returns-clause-said g c =
    let live = c.args.live.now in
    let changes : List Change = changes_between (told_by live.troubles) (troubles_after live.reports.stale_after (told_by live.troubles) (others_of live.transport.rounds.latest.datagrams.items live.freshness.targets.items live.transport.engines.items (length live.freshness.targets.items)) live.freshness) in
    let others = c.in_ok-others.ensures
    ∙ (λ i. others_of (c.latest-latest.ensures.latest i).datagrams.items (c.targets.ensures i) (c.as_slice-engines.ensures.value i) (length (c.targets.ensures i))) in
    let same = c.in_ok-changes.ensures.changes
    ∙ (λ i. changes_between (told_by live.troubles) (troubles_after live.reports.stale_after (told_by live.troubles) (others i) live.freshness)) in
    whole_said live.freshness c.args.number changes _ c.in_ok-tell_troubles.field-0 c.as_slice-2.result.now (g.H.Host.log c.args.host.now) (g.H.Host.log c.tell_troubles.new.host)
    refl (c.as_slice-2.ensures.value ∙ same) c.in_ok-tell_troubles.ensures

pub returns-in_err-put-clause-said : goal.returns-in_err-put-clause-said
returns-in_err-put-clause-said g c =
    let live = c.args.live.now in
    let changes : List Change = changes_between (told_by live.troubles) (troubles_after live.reports.stale_after (told_by live.troubles) (others_of live.transport.rounds.latest.datagrams.items live.freshness.targets.items live.transport.engines.items (length live.freshness.targets.items)) live.freshness) in
    let r = c.from_residual-in_err-put in
    let start = g.H.Host.log c.args.host.now in
    let end = g.H.Host.log c.tell_troubles.new.host in
    half_said live.freshness c.args.number changes r.result start end r.ensures.1 (some_said _ start end c.in_ok-tell_troubles.ensures)

pub returns-clause-notified : goal.returns-clause-notified
returns-clause-notified g c =
    let live = c.args.live.now in
    let before = live.courier in
    let after = c.notify_devices-put.new.courier in
    let seen = c.seen_at.result in
    let others = c.in_ok-others.ensures
    ∙ (λ i. others_of (c.latest-latest.ensures.latest i).datagrams.items (c.targets.ensures i) (c.as_slice-engines.ensures.value i) (length (c.targets.ensures i))) in
    let same = c.in_ok-changes.ensures.changes
    ∙ (λ i. changes_between (told_by live.troubles) (troubles_after live.reports.stale_after (told_by live.troubles) (others i) live.freshness)) in (
      seen,
      c.seen_at.ensures,
      subst (λ (cs : List Change). IfCarried (Chain (IsPut live.reports.printing seen live.freshness.targets.items) cs) before after) (c.as_slice.ensures.value ∙ same)
          (subst (λ (ts : List TargetAge). IfCarried (Chain (IsPut live.reports.printing seen ts) c.as_slice.result.now) before after) c.targets-targets.ensures
          c.in_ok-put.ensures.all),
    )

pub returns-in_err-others-clause-texts : goal.returns-in_err-others-clause-texts
returns-in_err-others-clause-texts g c =
    unfilled c.args.live.now.courier

pub returns-in_err-changes-clause-texts : goal.returns-in_err-changes-clause-texts
returns-in_err-changes-clause-texts g c =
    unfilled c.args.live.now.courier

pub returns-in_err-tell_troubles-clause-texts : goal.returns-in_err-tell_troubles-clause-texts
returns-in_err-tell_troubles-clause-texts g c =
    devices_fill _ _ _ _ c.args.live.now.courier c.notify_devices-put.new.courier c.notify_devices-put.ensures.each

pub returns-in_err-put-clause-texts : goal.returns-in_err-put-clause-texts
returns-in_err-put-clause-texts g c =
    devices_fill _ _ _ _ c.args.live.now.courier c.notify_devices-put.new.courier c.notify_devices-put.ensures.each

pub returns-clause-texts : goal.returns-clause-texts
returns-clause-texts g c =
    devices_fill _ _ _ _ c.args.live.now.courier c.notify_devices-put.new.courier c.notify_devices-put.ensures.each
