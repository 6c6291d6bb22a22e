-- Names of families, and texts of help.
use Rattle.std.proofs.Common.{◌≡◌, refl}
use Rattle.std.specs.List.{flat_map}
use Rattle.mon_formats.specs.declared.prometheus.text.Kind.TheVariants.{Gauge}
use Rattle.mon_formats.specs.declared.prometheus.metric.Metric.{Metric}
use Rattle.mon_formats.specs.declared.prometheus.metric.Metric.TheVariants.{Counted, Number, Samples, Rate, Alarm, Speed}
use Rattle.mon_formats.specs.declared.prometheus.station.StationMetric.{StationMetric}
use Rattle.mon_formats.specs.declared.prometheus.station.StationMetric.TheVariants.{Info, Incarnation, Taken, GivenUp, Debt, FailedSaves, Strangers, Dropped, Duration, Interval, Overruns, LastRound, Age}
use Rattle.mon_formats.specs.declared.prometheus.peer.PeerMetric.{PeerMetric}
use Rattle.mon_formats.specs.declared.prometheus.peer.PeerMetric.TheVariants.{PeerUp, LastHeard}
use Rattle.mon_formats.specs.declared.prometheus.target.TargetMetric.{TargetMetric}
use Rattle.mon_formats.specs.declared.prometheus.target.TargetMetric.TheVariants.{Up, Rounds, Seconds, PollsGivenUp, Refusal}
use Rattle.mon_formats.specs.Prometheus.{IsNamed, escaped, family_name}
use Rattle.mon_formats.specs.Prometheus.{help_of, name_of, type_of}
use Rattle.mon_formats.specs.Prometheus.{station_help, station_name, station_type}
use Rattle.mon_formats.specs.Prometheus.{peer_help, peer_name, target_help, target_name, target_type}

pub of_instances : (metric : Metric) → IsNamed (type_of metric) (name_of metric)
unfolding family_name
of_instances Counted = refl
of_instances Number = refl
of_instances Samples = refl
of_instances Rate = refl
of_instances Alarm = refl
of_instances Speed = refl

pub plain_instances : (metric : Metric) → flat_map escaped (help_of metric) ≡ help_of metric
plain_instances Counted = refl
plain_instances Number = refl
plain_instances Samples = refl
plain_instances Rate = refl
plain_instances Alarm = refl
plain_instances Speed = refl

pub of_station : (metric : StationMetric) → IsNamed (station_type metric) (station_name metric)
unfolding family_name
of_station Info = refl
of_station Incarnation = refl
of_station Taken = refl
of_station GivenUp = refl
of_station Debt = refl
of_station FailedSaves = refl
of_station Strangers = refl
of_station Dropped = refl
of_station Duration = refl
of_station Interval = refl
of_station Overruns = refl
of_station LastRound = refl
of_station Age = refl

pub plain_station : (metric : StationMetric) → flat_map escaped (station_help metric) ≡ station_help metric
plain_station Info = refl
plain_station Incarnation = refl
plain_station Taken = refl
plain_station GivenUp = refl
plain_station Debt = refl
plain_station FailedSaves = refl
plain_station Strangers = refl
plain_station Dropped = refl
plain_station Duration = refl
plain_station Interval = refl
plain_station Overruns = refl
plain_station LastRound = refl
plain_station Age = refl

pub of_peers : (metric : PeerMetric) → IsNamed Gauge (peer_name metric)
unfolding family_name
of_peers PeerUp = refl
of_peers LastHeard = refl

pub plain_peers : (metric : PeerMetric) → flat_map escaped (peer_help metric) ≡ peer_help metric
plain_peers PeerUp = refl
plain_peers LastHeard = refl

pub of_targets : (metric : TargetMetric) → IsNamed (target_type metric) (target_name metric)
unfolding family_name
of_targets Up = refl
of_targets Rounds = refl
of_targets Seconds = refl
of_targets PollsGivenUp = refl
of_targets Refusal = refl

pub plain_targets : (metric : TargetMetric) → flat_map escaped (target_help metric) ≡ target_help metric
plain_targets Up = refl
plain_targets Rounds = refl
plain_targets Seconds = refl
plain_targets PollsGivenUp = refl
plain_targets Refusal = refl
