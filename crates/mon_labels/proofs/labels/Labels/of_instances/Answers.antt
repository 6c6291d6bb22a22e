use Rattle.std.proofs.Common.{◌+◌, ◌++◌, ◌∙◌, List, ap, ap₂, map, arith}
use Rattle.std.proofs.lemmas.Grind.{common_steps}
use Rattle.mon_page.specs.declared.extras.InstanceLabels.{InstanceLabels}
use Rattle.mon_labels.specs.Given.{given, labels_for}
use Rattle.mon_labels.proofs.Each.{left, one_more}
use Rattle.mon_labels.proofs.labels.Labels.of_instances.Goals as goal

pub loop-place-preserved : goal.loop-place-preserved
loop-place-preserved c =
    let all = c.args.self.now.interfaces.items in
    let targets = c.args.reached.targets.now in
    let addresses = c.args.reached.addresses.now in
    let devices = c.args.reached.devices.now in
    let ws = c.args.instances.now in
    let at = c.loop-place.place in
    let w = c.index-instances-place.result in
    let same = c.in_ok-labels.ensures ∙ ap₂ (λ a d. labels_for all a d w.instance) c.address_of-address.ensures c.device_of-device.ensures in
    ap (λ (v : List InstanceLabels). map given v ++ left all targets addresses devices ws (at + 1)) c.in_ok-push.ensures.items
    ∙ one_more all targets addresses devices ws at w _ _ _ (omega arith) c.index-instances-place.is same c.loop-place.invariant

pub returns : goal.returns
returns c = grind (arith, common_steps)
