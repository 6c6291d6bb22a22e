-- What contracts see of a station that is run.
use Rattle.std.specs.Prelude.{ℕ, List, Option}
use Rattle.mon_disk.specs.declared.disk.Disk.{Ghosts}
use Rattle.mon_disk.specs.Kept.{device_of, last_body}
use Rattle.mon_station.specs.declared.event.Outgoing.{Outgoing}
use Rattle.mon_station.specs.declared.station.Station.{Station}
use Rattle.mon_station.specs.Saved.{OrLast}
use Rattle.mon_station.specs.State.{State, state_of}

-- its state, the view of its source, what its outbox was given, its disk, and the body that its
-- keeper knows as the last
pub record Seen (V : Type 0) {X : Type 0} (G : Ghosts X) : Type 0 where
  pub state : State
  pub view : V
  pub handed : Option (List Outgoing)
  pub disk : X
  pub last : Option (List ℕ)

-- a station with a source of this view, and an outbox that was given this
abbrev pub seen : {V X : Type 0} {G : Ghosts X} → Station X G → V → Option (List Outgoing)
    → Seen V G
seen s view handed = record {
  state = state_of s.life;
  view = view;
  handed = handed;
  disk =
      device_of s.keeper;
  last = last_body s.keeper;
}

-- what a crash may leave of its disk, or a file in which its last save is found
abbrev pub met : {V X : Type 0} {G : Ghosts X} → Seen V G → List ℕ → Type 0
met {G = G} s = OrLast (G.may_leave s.disk) s.last
