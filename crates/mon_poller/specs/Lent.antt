-- What a stamp that is lent shows.
use Rattle.mon_poller.specs.declared.lent.Stamp.{Stamp as Lent}
use Rattle.mon_poller.specs.Stamp.{Stamp}

-- its values
abbrev pub lent_stamp : Lent → Stamp
lent_stamp s = record { engine = s.engine.now; boots = s.boots; time = s.time }
