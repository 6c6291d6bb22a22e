use Rattle.mon_station_commands.proofs.Running.{no_courier, no_address, no_reports, no_settings, words_run}
use Rattle.mon_station_commands.proofs.Steps.{failure_is}
use Rattle.mon_station_commands.proofs.station.run_words.Goals as goal

pub returns-in_err-http_at : goal.returns-in_err-http_at
returns-in_err-http_at g c =
    let failure = c.in_err-http_at.field-0.0 in
    let r = c.from_residual.result in
    no_address c.args.words failure r (g.H.Host.log c.args.host.now) (failure_is r failure c.from_residual.ensures.1) c.in_err-http_at.ensures

pub returns-in_err-courier : goal.returns-in_err-courier
returns-in_err-courier g c =
    let failure = c.in_err-courier.field-0.0 in
    let r = c.from_residual-in_err-courier.result in
    no_courier c.args.words c.in_ok-http_at.http_at failure r (g.H.Host.log c.args.host.now) (failure_is r failure c.from_residual-in_err-courier.ensures.1) c.in_ok-http_at.ensures c.in_err-courier.ensures

pub returns-in_err-settings : goal.returns-in_err-settings
returns-in_err-settings g c =
    let failure = c.in_err-settings.field-0.0 in
    let r = c.from_residual-in_err-settings.result in
    no_settings c.args.words c.in_ok-http_at.http_at c.in_ok-courier.courier failure r (g.H.Host.log c.args.host.now) (g.H.Host.log c.read_labelled_station.new.host)
    (failure_is r failure c.from_residual-in_err-settings.ensures.1) c.in_ok-http_at.ensures c.in_ok-courier.ensures c.in_err-settings.ensures

pub returns-in_err-reports : goal.returns-in_err-reports
returns-in_err-reports g c =
    let failure = c.in_err-reports.field-0.0 in
    let r = c.from_residual-in_err-reports.result in
    no_reports c.args.words c.in_ok-http_at.http_at c.in_ok-courier.courier c.in_ok-settings.settings c.in_ok-settings.printing failure r (g.H.Host.log c.args.host.now)
    (g.H.Host.log c.read_labelled_station.new.host) (failure_is r failure c.from_residual-in_err-reports.ensures.1) c.in_ok-http_at.ensures c.in_ok-courier.ensures c.in_ok-settings.ensures c.in_err-reports.ensures

pub returns : goal.returns
returns g c =
    words_run c.args.words c.in_ok-http_at.http_at c.in_ok-courier.courier c.in_ok-settings.settings c.in_ok-settings.printing c.in_ok-reports.reports c.run_by.result (g.H.Host.log c.args.host.now)
    (g.H.Host.log c.read_labelled_station.new.host) (g.H.Host.log c.run_by.new.host) c.in_ok-http_at.ensures c.in_ok-courier.ensures c.in_ok-settings.ensures c.in_ok-reports.ensures c.run_by.ensures
