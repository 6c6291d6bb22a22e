-- When agents restarted, by the stamps of their responses.
use Rattle.std.specs.Prelude.{ℕ, ◌≡◌, ◌<◌, ◌⊎◌, ◌==◌, ◌&&◌, max, nat_lt, if◌then◌else◌, List, []}
use Rattle.std.specs.Prelude.{◌∷◌, ◌++◌, Option, Some, None, filter}
use Rattle.std.specs.List.{fold}
use Rattle.std.specs.Option.{option_to_list}
use Rattle.mon_station.specs.declared.event.TargetStamp.{TargetStamp}
use Rattle.mon_rounds.specs.declared.clock.Clock.{Clock}
use Rattle.mon_rounds.specs.declared.clock.Restart.{Restart}

-- no response was taken
abbrev pub no_clock : Clock
no_clock = record { last = None; greatest = 0; restart = None }

-- the restart that a response shows which comes after a last one: its boots are greater, or they
-- are equal and its time is less; then its samples are too old until its time is past the greatest
abbrev pub restart_between : TargetStamp → ℕ → TargetStamp → Option Restart
restart_between last greatest stamp =
    if nat_lt last.boots stamp.boots then Some (record {
      boots = stamp.boots;
      time = stamp.time;
      until = None;
    })
    else (if last.boots == stamp.boots && nat_lt stamp.time last.time
    then Some (record { boots = stamp.boots; time = stamp.time; until = Some greatest })
    else None)

-- the later one of two restarts, where there is one
abbrev pub or_before : Option Restart → Option Restart → Option Restart
or_before None before = before
or_before (Some restart) before = Some restart

-- the last restart after a response: the first response of all shows none
abbrev pub restart_after : Option TargetStamp → ℕ → TargetStamp → Option Restart → Option Restart
restart_after None greatest stamp before = before
restart_after (Some last) greatest stamp before = or_before (restart_between last greatest stamp)
    before

-- the greatest time with the boots of a response, after the last one before it and the greatest
-- time with that one's boots
abbrev pub greatest_after : Option TargetStamp → ℕ → TargetStamp → ℕ
greatest_after None greatest stamp = stamp.time
greatest_after (Some last) greatest stamp = if last.boots == stamp.boots
    then max greatest stamp.time else stamp.time

-- a target's clock after a response of it
abbrev pub clock_with : Clock → TargetStamp → Clock
clock_with clock stamp = record {
  last = Some stamp;
  greatest = greatest_after clock.last clock.greatest stamp;
  restart = restart_after clock.last clock.greatest stamp clock.restart;
}

-- the clock of the target of this number after a response, which may be another target's
abbrev pub clock_by : ℕ → Clock → TargetStamp → Clock
clock_by number clock stamp = if stamp.target == number then clock_with clock stamp else clock

-- the clock of the target of this number after a round, or a spell of the time after it, in which
-- these responses were taken: what showed a restart before is not said again
abbrev pub clock_after : ℕ → List TargetStamp → Clock → Clock
clock_after number answered clock = fold (clock_by number) (record
    { last = clock.last; greatest = clock.greatest; restart = None }) answered

-- ---- laws
-- the agent restarted between responses of these stamps: its boots rose, or they stayed and its
-- time fell
abbrev pub IsRestart : TargetStamp → TargetStamp → Type 0
IsRestart a b = (a.boots < b.boots) ⊎ ((a.boots ≡ b.boots) × (b.time < a.time))

-- the second of these comes directly after the first in a list
abbrev pub Follows : TargetStamp → TargetStamp → List TargetStamp → Type 0
Follows a b [] = ⊥
Follows a b (x ∷ []) = ⊥
Follows a b (x ∷ y ∷ stamps) = ((a ≡ x) × (b ≡ y)) ⊎ Follows a b (y ∷ stamps)

-- the responses of the target of this number that were taken: the last one before, if there was
-- one, and those of these that are its own
abbrev pub responses_of : ℕ → Clock → List TargetStamp → List TargetStamp
responses_of number clock answered = option_to_list clock.last
    ++ filter (λ stamp. stamp.target == number) answered

-- a restart that is said after these responses: two of them that were taken one after the other
-- show it, and it has the stamp of the second
pub record Happened (responses : List TargetStamp) (restart : Restart) : Type 0 where
  pub before : TargetStamp
  pub after : TargetStamp
  pub follows : Follows before after responses
  pub shows : IsRestart before after
  pub boots : restart.boots ≡ after.boots
  pub time : restart.time ≡ after.time
