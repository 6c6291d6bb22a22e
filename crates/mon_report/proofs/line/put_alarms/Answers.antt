use Rattle.std.proofs.Common.{◌==◌, ◌∙◌, sym, Bool}
use Rattle.mon_alarms.specs.Rule.{Rule}
use Rattle.mon_report.specs.Report.{alarm_text}
use Rattle.mon_report.proofs.Written.{text-none, text-as}
use Rattle.mon_report.proofs.Loops.{text_where, text_where-yes, text_where-not, same-number, other-number, filter-each, text-more, text-all}
use Rattle.mon_report.proofs.line.put_alarms.Goals as goal
use Rattle.mon_report.proofs.line.put_alarms.Goals.{then-instance, else-instance}

pub loop-rule-preserved : goal.loop-rule-preserved
loop-rule-preserved g c =
    let item = c.rule-item.result in
    let test : Rule → Bool = λ r. r.instance == c.args.instance in
    let text = alarm_text c.args.samples.now in
    elim c.if-instance.branch [
      | then-instance w ↦
          let passes = same-number _ _ (sym c.instance.ensures ∙ w.if-instance.true) in
          rw (w.writer-is, w.ok-is) (text-more (text_where test text) c.args.rules.now c.loop-rule.rule-index item _ _ _ _ _ _ c.loop-rule-test.true c.loop-rule.invariant
          (text-as _ _ _ _ _ _ (text_where-yes test text item _ c.rule-item.is passes) w.put_alarm-ok.ensures))
      | else-instance w ↦
          let fails = other-number _ _ (λ e. w.if-instance.false (c.instance.ensures ∙ e)) in
          rw (w.writer-is, w.ok-is) (text-more (text_where test text) c.args.rules.now c.loop-rule.rule-index item _ _ _ _ _ _ c.loop-rule-test.true c.loop-rule.invariant
          (text-as _ _ _ _ _ _ (text_where-not test text item _ c.rule-item.is fails) (text-none _ _)))
    ]

pub returns : goal.returns
returns g c =
    text-as _ _ _ _ _ _ (filter-each (λ r. r.instance == c.args.instance) (alarm_text c.args.samples.now) c.args.rules.now)
    (text-all _ c.args.rules.now c.loop-rule.rule-index _ _ _ _ c.loop-rule-test.false c.loop-rule.invariant)
