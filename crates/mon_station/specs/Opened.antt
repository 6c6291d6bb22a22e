-- What a station is opened with.
use Rattle.mon_config.specs.StationCore.{Core}
use Rattle.mon_station.specs.Verdict.{Setting}

-- the setting that a core is
abbrev pub setting_in : Core → Setting
setting_in c = record { watch = c.watch; targets = c.targets; own = c.station; peers = c.peers }
