use Rattle.std.proofs.Common.{◌≡◌, ap, sym, ◌∙◌}
use Rattle.std.specs.Prelude.{slice_get}
use Rattle.mon_report.specs.Report.{alarm_of}
use Rattle.mon_report.proofs.States.{alarm-more, alarm-none}
use Rattle.mon_report.proofs.report.Entry.alarms.Goals.{then-instance-self+in_ok-push, else-instance-self}
use Rattle.mon_report.proofs.report.Entry.alarms.Goals as goal

pub loop-place-preserved : goal.loop-place-preserved
loop-place-preserved c =
    let e = c.self.inside in
    let place = c.loop-place.place in
    let r = c.index-self-place.result in
    let is = c.index-self-place.is in
    let number : r.instance ≡ c.instance.result = ap (λ x. x.instance) is ∙ sym c.instance.ensures in
    elim c.if-instance-self.branch [
      | then-instance-self+in_ok-push w ↦
          let own : w.alarm_of.result ≡ alarm_of e.samples.now r (slice_get e.states.now place) =
          w.alarm_of.ensures ∙ (λ j. alarm_of e.samples.now (sym is j) (w.state_at-announced.ensures j)) in
          alarm-more e.states.now e.instance e.samples.now e.rules.now place r c.loop-place-test.true is c.loop-place.alarms.items c.if-instance-self.alarms.items _
          w.alarm_of.result (number ∙ w.if-instance-self.true) own (ap (λ v. v.items) w.alarms-is ∙ w.in_ok-push.ensures.items) c.loop-place.invariant
      | else-instance-self w ↦
          alarm-none e.states.now e.instance e.samples.now e.rules.now place r c.loop-place-test.true is c.loop-place.alarms.items c.if-instance-self.alarms.items _
          (λ same. w.if-instance-self.false (sym number ∙ same)) (ap (λ v. v.items) w.alarms-is) c.loop-place.invariant
    ]
