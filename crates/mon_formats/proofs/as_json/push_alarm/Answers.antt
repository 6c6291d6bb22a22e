use Rattle.std.proofs.Common.{◌∙◌}
use Rattle.serde_json.proofs.Views.{view-Object}
use Rattle.serde_json.specs.declared.value.Value.{Object}
use Rattle.mon_formats.proofs.Pushed.{pushed}
use Rattle.mon_formats.proofs.as_json.push_alarm.Goals as goal

pub returns : goal.returns
returns c =
    let members = c.put_alarm.new.members in
    pushed c.push.result _ _ (Object members) _ (view-Object members ∙ c.in_ok-put_alarm.ensures) c.push.ensures.ok
