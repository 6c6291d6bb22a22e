use Rattle.std.proofs.Common.{◌∙◌, ◌++◌, List, ℕ, ap, subst}
use Rattle.std.specs.List.{flat_map}
use Rattle.std.specs.Prelude.{Option}
use Rattle.mon_host.specs.Log.{GoesOnBy}
use Rattle.mon_rounds.specs.declared.reporting.Notice.{Notice}
use Rattle.mon_file_commands.specs.Line.{AreNoted}
use Rattle.mon_station_commands.specs.Telling.{last_stray, notice_lines, stray_lines, strays_in, unreceived_lines, unsent_lines}
use Rattle.mon_station_commands.proofs.Notes.{noted_on}
use Rattle.mon_station_commands.proofs.telling.tell_notices.Goals as goal
use Rattle.mon_udp.specs.declared.addr.Addr.{Addr}

pub returns : goal.returns
returns g c =
    let start = g.H.Host.log c.args.host.now in
    let one = g.H.Host.log c.tell_each.new.host in
    let two = g.H.Host.log c.tell_strays.new.host in
    let three = g.H.Host.log c.tell_unreceived.new.host in
    let end = g.H.Host.log c.tell_unsent.new.host in
    let round = c.args.round in
    let report = c.args.report.now in
    let notices = report.notices.items in
    let is = c.as_slice-notices.ensures.value in
    let count = c.strays_in-count.ensures.count ∙ ap (λ (ns : List Notice). strays_in ns) is in
    let last = c.strays_in-count.ensures.last ∙ ap (λ (ns : List Notice). last_stray ns) is in
    let each = subst (λ (ns : List Notice). GoesOnBy (AreNoted (flat_map (notice_lines round) ns)) start one) is c.tell_each.ensures in
    let counted = subst (λ (n : ℕ). GoesOnBy (AreNoted (stray_lines round n c.strays_in-count.result.1)) one two) count c.tell_strays.ensures in
    let strays = subst (λ (l : Option Addr). GoesOnBy (AreNoted (stray_lines round (strays_in notices) l)) one two) last counted in
    let a = flat_map (notice_lines round) notices in
    let b = stray_lines round (strays_in notices) (last_stray notices) in
    let d = unreceived_lines round report.source_faults in
    let e = unsent_lines round report.send_faults in
    noted_on (a ++ b ++ d) e start three end (noted_on (a ++ b) d start two three (noted_on a b start one two each strays) c.tell_unreceived.ensures) c.tell_unsent.ensures
