-- A station's trial of itself.
use Rattle.std.specs.Global.{Vec}
use Rattle.std.specs.Prelude.{ℕ, ◌≡◌, ◌≢◌, List, ◌++◌, Result, Ok, Err, codes}
use Rattle.mon_agent.specs.declared.fault.AgentFault.{AgentFault}
use Rattle.mon_agent.specs.declared.reply.Reply.{Reply}
use Rattle.mon_agent.specs.declared.reply.Reply.TheVariants.{Send, Silent}
use Rattle.mon_settings.specs.declared.fault.SettingsFault.{SettingsFault}
use Rattle.mon_settings.specs.declared.fault.SettingsFault.TheVariants as settings
use Rattle.mon_station.specs.declared.fault.StationFault.{StationFault}
use Rattle.mon_station.specs.declared.fault.StationFault.TheVariants as station
use Rattle.mon_station.specs.Fault as stations
use Rattle.mon_rehearsal.specs.declared.trial.TrialFault.{TrialFault}
use Rattle.mon_rehearsal.specs.declared.trial.TrialFault.TheVariants.{OutOfMemory, Unexpected}
use Rattle.mon_rehearsal.specs.declared.trial.TrialFault.TheVariants.{Refused}

-- the number of a fault
abbrev pub number_of : TrialFault → ℕ
number_of OutOfMemory = 1
number_of Unexpected = 2
number_of (Refused f) = 3

-- the name of a fault, as a printed line gives it
abbrev pub name_of : TrialFault → List ℕ
name_of OutOfMemory = codes "OutOfMemory"
name_of Unexpected = codes "Unexpected"
name_of (Refused f) = codes "Refused"

-- the innermost fault: the station's, where the station refused
abbrev pub innermost_of : TrialFault → stations.Told
innermost_of (Refused f) = stations.innermost_of f
innermost_of f = record { part = codes "mon_rounds"; number = number_of f; name = name_of f }

-- a station's fault as the trial's: its lack of memory is the trial's own
abbrev pub station_refusal : StationFault → TrialFault
station_refusal station.OutOfMemory = OutOfMemory
station_refusal f = Refused f

-- a fault of settings as the trial's: lack of memory is the trial's own, and nothing else may be
-- refused there
abbrev pub settings_refusal : SettingsFault → TrialFault
settings_refusal settings.OutOfMemory = OutOfMemory
settings_refusal f = Unexpected

-- why a text was refused: it is not the one that is expected, or it is and memory ran out
abbrev pub IsJudged : (text wanted : List ℕ) → TrialFault → Type 0
IsJudged text wanted Unexpected = text ≢ wanted
IsJudged text wanted OutOfMemory = text ≡ wanted
IsJudged text wanted (Refused f) = ⊥

-- what is taken of an agent's answer: the octets that it sends, where silence is not expected
abbrev pub IsTakenReply : Result Reply AgentFault → Result (Vec ℕ) TrialFault → Type 0
IsTakenReply (Ok (Send octets)) taken = taken ≡ Ok octets
IsTakenReply (Ok (Silent why)) taken = taken ≡ Err Unexpected
IsTakenReply (Err fault) taken = taken ≡ Err OutOfMemory

-- what a station has to report at the end of a trial: three samples of a counter of 1000 octets a
-- second, over 20 seconds
abbrev pub trial_report : List ℕ
trial_report =
    codes "8000000001 1.3.6.1.2.1.31.1.1.1.6.1 n=3 1:100..1:120 Counter64=120000 delta=20000 span=20 rate=1000.000\n"
    ++ codes "end 1 instances 3 samples\n"

-- what a trial with a good end prints
abbrev pub trial_text : List ℕ
trial_text = trial_report ++ codes "selftest: ok\n"
