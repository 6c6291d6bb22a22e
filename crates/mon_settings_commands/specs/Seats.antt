-- The settings of a station of a network: where it and its peers are, and its file.
use Rattle.std.specs.Prelude.{◌≡◌, ◌≤◌, ◌⊎◌, ◌+◌, ◌==◌, ◌++◌, ◌∷◌, ℕ, zero, suc, List, [], Some}
use Rattle.std.specs.Prelude.{Result, Ok, Err, codes, length, map, option_copied, string_bytes}
use Rattle.std.specs.Prelude.{if◌then◌else◌}
use Rattle.mon_cli.specs.declared.meaning.SettingsArgs.{SettingsArgs}
use Rattle.mon_console.specs.Failure.{IsMemory}
use Rattle.mon_console.specs.declared.failure.Failure.{Failure}
use Rattle.mon_placing.specs.Network.{listens, seat_file}
use Rattle.mon_placing.specs.declared.network.Seat.{Seat}
use Rattle.mon_survey.specs.Appended.{shown_by}
use Rattle.mon_survey.specs.Meant.{IsFault, IsSettingsText}
use Rattle.mon_survey.specs.declared.choice.Choice.{Choice}
use Rattle.mon_survey.specs.declared.fault.SurveyFault.{SurveyFault}
use Rattle.mon_survey.specs.declared.longest.Drafted.{Drafted}
use Rattle.mon_survey.specs.declared.options.Options.{Options}
use Rattle.mon_survey.specs.declared.options.Peer.{Peer}
use Rattle.mon_survey.specs.declared.size.TargetSize.{TargetSize}
use Rattle.mon_udp.specs.Addr.{addr_text}
use Rattle.mon_settings_commands.specs.Named.{given_or}
use Rattle.mon_settings_commands.specs.Source.{IsChoice, IsOfSurvey, Source}
use Rattle.mon_settings_commands.specs.declared.settings.Texts.{Texts}

-- the number of a peer, and where it listens
abbrev pub peer_at : Peer → ℕ × List ℕ
peer_at p = (p.station, string_bytes p.address)

-- The station of this place in a station's group as a peer: its number, one more than its place,
-- and where it listens. A station is no peer of itself.
abbrev pub other_at : Seat → ℕ → List (ℕ × List ℕ)
other_at s k = if k == s.station then []
    else ((k + 1, addr_text (listens (record s { station = k }))) ∷ [])

-- the peers of a station among the first stations of its group, of which this is the number
abbrev pub others_of : Seat → ℕ → List (ℕ × List ℕ)
others_of s zero = []
others_of s (suc k) = others_of s k ++ other_at s k

-- the texts of a station of a network: where it listens, its file, and its peers
pub record AreSeatTexts (words : SettingsArgs) (s : Seat) (t : Texts) : Type 0 where
  pub listen : string_bytes t.listen ≡ addr_text (listens s)
  pub file : string_bytes t.file ≡ seat_file (given_or (codes "station.mon")
      (option_copied words.file)) s
  pub peers : map peer_at t.peers.items ≡ others_of s s.network.stations

-- The options of a station of a network, by targets of this size. Its number is one more than its
-- place in its group.
pub record AreSeatOptions (from : Source) (s : Seat) (size : TargetSize) (o : Options)
    : Type 0 where
  pub station : o.station ≡ s.station + 1
  pub listen : o.listen.now ≡ addr_text (listens s)
  pub file : o.file.now ≡ seat_file (given_or (codes "station.mon")
      (option_copied from.words.file)) s
  pub peers : map peer_at o.peers.now ≡ others_of s s.network.stations
  pub window : o.window ≡ from.words.window
  pub wait_ms : o.wait_ms ≡ from.words.wait_ms
  pub tries : from.words.tries ≤ 8 → o.tries ≡ from.words.tries
  pub size_is : o.size ≡ size
  pub percent : from.asked.percent ≤ 100 → o.percent ≡ from.asked.percent
  pub modules : o.modules.now ≡ from.words.modules.now
  pub address : o.address.now ≡ from.words.address.now
  pub community : o.community.now ≡ from.words.community.now

-- The settings of a station of a network by targets of a size: a text by its options and the
-- counters of its group, with how long a round of what it is read as takes at most, and its
-- targets; or why there is none.
abbrev pub IsSeatSettings : Source → Seat → TargetSize → Result Drafted Failure → Type 0
IsSeatSettings from s size (Ok drafted) = (o : Options) × (choice : Choice)
    × AreSeatOptions from s size o × IsChoice from (Some s.part) choice
    × IsSettingsText from.names (shown_by from.names (length o.modules.now)) choice o
    from.survey.engine.items from.survey.answers (string_bytes drafted.text) drafted.longest
    drafted.targets.items
IsSeatSettings from s size (Err failure) = IsMemory failure
    ⊎ ((o : Options) × (choice : Choice) × (fault : SurveyFault) × AreSeatOptions from s size o
    × IsChoice from (Some s.part) choice × IsOfSurvey fault failure
    × IsFault from.names (shown_by from.names (length o.modules.now)) choice o
    from.survey.engine.items from.survey.answers fault)
