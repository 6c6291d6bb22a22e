use Rattle.std.proofs.Common.{◌<◌, ◌∙◌, sym, ap, length, arith}
use Rattle.std.specs.List.{list_any}
use Rattle.mon_alarms.specs.Changes.{is_raised}
use Rattle.mon_page.proofs.Alarms.{raised, clear, some-alarms}
use Rattle.mon_page.proofs.cells.alarm_cell.Goals as goal

pub returns-then-is_any_raised : goal.returns-then-is_any_raised
returns-then-is_any_raised c =
    let alarms = c.deref.ensures.value ∙ c.in_ok-alarms.ensures in
    raised c.args.entry.now.alarms (sym (ap (list_any (λ alarm. is_raised alarm.state)) alarms) ∙ sym c.is_any_raised.ensures ∙ c.if-is_any_raised.true)

pub returns : goal.returns
returns c =
    let alarms = c.deref.ensures.value ∙ c.in_ok-alarms.ensures in
    let some : 0 < length c.args.entry.now.alarms = omega (arith, some-alarms _ _ c.is_empty.ensures c.if-is_empty.false, c.deref.ensures.len, ap length alarms) in
    clear c.args.entry.now.alarms some (sym (ap (list_any (λ alarm. is_raised alarm.state)) alarms) ∙ sym c.is_any_raised.ensures ∙ c.if-is_any_raised.false)
