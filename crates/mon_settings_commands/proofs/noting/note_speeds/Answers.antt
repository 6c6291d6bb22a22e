use Rattle.std.proofs.Common.{◌≡◌, ◌∙◌, List, ap}
use Rattle.mon_host.proofs.Promised.{weaker}
use Rattle.mon_host.specs.AtHost.{AtHost}
use Rattle.mon_settings_commands.specs.Notes.{AreSpeedsNoted, speed_notes}
use Rattle.mon_settings_commands.specs.Source.{source_in}
use Rattle.mon_settings_commands.proofs.noting.note_speeds.Goals as goal

pub returns : goal.returns
returns g c =
    let s = source_in c.args.input.now in
    let percent = s.asked.percent in
    let is = c.choice.ensures in
    weaker (λ (log : List AtHost). log ≡ speed_notes percent c.count_without_speed-count.result) (AreSpeedsNoted s) (g.H.Host.log c.args.host.now) (g.H.Host.log c.note_count.new.host)
    (λ log said. (
      c.choice.result,
      record { kinds = is.kinds; up = is.up; part = is.part; group = is.group },
      said ∙ ap (speed_notes percent) c.count_without_speed-count.ensures,
    )) c.note_count.ensures
