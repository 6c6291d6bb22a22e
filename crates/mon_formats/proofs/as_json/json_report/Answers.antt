use Rattle.std.proofs.Common.{option_map, rules}
use Rattle.serde_json.specs.Written.{compact_text}
use Rattle.mon_formats.specs.Json.{report_data, json_report}
use Rattle.mon_formats.proofs.Depths as depths
use Rattle.mon_formats.proofs.Sound.{reads_back}
use Rattle.mon_formats.proofs.as_json.json_report.Goals as goal

pub returns-clause-read_back : goal.returns-clause-read_back
unfolding json_report
returns-clause-read_back g c =
    let shown = g.S.NameTexts.shown c.args.names.now in
    let station = option_map (λ f. f.now) c.args.station in
    let report = report_data shown c.args.entries.now station in
    (compact_text report, search rules, reads_back report c.in_ok-put_report.ensures.sound (depths.of_report shown c.args.entries.now station))
