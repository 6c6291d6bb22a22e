-- Looks at settings that may have changed.
use Rattle.std.proofs.Common.{◌≡◌, ◌++◌, ◌∷◌, List, ℕ, [], Bool, option_map, refl, subst}
use Rattle.std.specs.Prelude.{Option, Some, Result}
use Rattle.std.specs.Result.{result_ok}
use Rattle.std.specs.declared.time.SystemTime.{SystemTime}
use Rattle.mon_cli.specs.declared.meaning.StationArgs.{StationArgs}
use Rattle.mon_console.specs.Labelled.{IsLabelled}
use Rattle.mon_console.specs.declared.failure.Failure.{Failure}
use Rattle.mon_console.specs.declared.printing.Printing.{Printing}
use Rattle.mon_host.specs.AtHost.{AtHost, dating_file}
use Rattle.mon_host.specs.Log.{GoesOn, GoesOnBy}
use Rattle.mon_host.specs.declared.reason.Reason.{Reason}
use Rattle.mon_host.proofs.Promised.{goes_on}
use Rattle.mon_settings.specs.declared.station.StationSettings.{StationSettings}
use Rattle.mon_station_commands.specs.Following.{AreNews, IsFollowed, IsNewsSaid, IsSettingsLook, new_time}

module _ (words : StationArgs) where
  module _ (round : ℕ) where
    -- what is new was read, and said
    pub news : (at : SystemTime) (given : Result (StationSettings × Printing) Failure) (after : Option SystemTime) (ends : Bool) (t0 t1 t2 : Option (List AtHost))
        → GoesOnBy (λ log. IsLabelled words.settings.now (option_map (λ l. l.now) words.labels) words.printed log given) t0 t1
        → GoesOnBy (λ log. IsNewsSaid words round at given log after ends) t1 t2 → GoesOnBy (λ log. AreNews words round at log after ends) t0 t2
    news at given after ends t0 t1 t2 read said = record {
      more = read.more ++ said.more;
      holds = record { given = given; begin = read.more; read = read.holds; rest = said.more; said = said.holds; log_is = refl };
      on = goes_on read.more said.more t0 t1 t2 read.on said.on;
    }

    -- a look that found something new
    pub is_new : (known after : Option SystemTime) (changed : Result SystemTime Reason) (at : SystemTime) (ends : Bool) (t0 t1 t2 : Option (List AtHost))
        → Some at ≡ new_time known (result_ok changed) → GoesOn (dating_file words.settings.now changed ∷ []) t0 t1
        → GoesOnBy (λ log. AreNews words round at log after ends) t1 t2 → GoesOnBy (λ log. IsSettingsLook words round known log after ends) t0 t2
    is_new known after changed at ends t0 t1 t2 is asked done = record {
      more = dating_file words.settings.now changed ∷ done.more;
      holds = record {
        changed = changed;
        rest = done.more;
        done = subst (λ (n : Option SystemTime). IsFollowed words round known n done.more after ends) is done.holds;
        log_is = refl;
      };
      on = goes_on (dating_file words.settings.now changed ∷ []) done.more t0 t1 t2 asked done.on;
    }
