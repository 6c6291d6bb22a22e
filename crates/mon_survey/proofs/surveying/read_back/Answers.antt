use Rattle.std.proofs.lemmas.Result.{IfErr-weaker, IfOk-weaker}
use Rattle.mon_settings.specs.StationAccepted.{station_view}
use Rattle.mon_survey.proofs.Verdicts.{not_read_back}
use Rattle.mon_survey.proofs.surveying.read_back.Goals as goal

pub returns-in-Ok-clause-gives : goal.returns-in-Ok-clause-gives
returns-in-Ok-clause-gives c =
    let says = rw c.in-Ok.is at c.read_station.ensures.accepted in
    IfOk-weaker c.require_meant.result _ _ (λ reading meant. (station_view c.in-Ok.station, says, meant.0, meant.1, meant.2)) c.require_meant.ensures.gives

pub returns-in-Ok-clause-fault : goal.returns-in-Ok-clause-fault
returns-in-Ok-clause-fault c =
    let says = rw c.in-Ok.is at c.read_station.ensures.accepted in
    IfErr-weaker c.require_meant.result _ _ (not_read_back _ _ _ _ _ _ (station_view c.in-Ok.station) says) c.require_meant.ensures.fault
