use Rattle.std.proofs.Common.{◌≡◌, drop, map}
use Rattle.serde_json.specs.Data.{no_members}
use Rattle.serde_json.specs.View.{members_view}
use Rattle.mon_notify.specs.Labels.{pair_of}
use Rattle.mon_notify.specs.Webhook.{with_labels}
use Rattle.mon_notify.proofs.webhook.put_labels.Given as goal

abbrev pub invariant-loop-i : goal.invariant-loop-i
invariant-loop-i l =
    with_labels (members_view l.members.entries) (map pair_of (drop l.i l.labels)) ≡ with_labels no_members (map pair_of l.labels)
