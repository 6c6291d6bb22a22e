-- The texts that options give: where a station and its peers are, and its file.
use Rattle.std.specs.Prelude.{◌≡◌, ◌<◌, ◌≤◌, ◌⊎◌, ℕ, ◌+◌, List, [], ◌∷◌, Some, None, option_copied}
use Rattle.std.specs.Prelude.{string_bytes, codes}
use Rattle.mon_app.specs.declared.fault.AppFault.TheVariants.{BadText}
use Rattle.mon_cli.specs.declared.meaning.SettingsArgs.{SettingsArgs}
use Rattle.mon_console.specs.Failure.{IsMemory, IsOfText}
use Rattle.mon_console.specs.declared.failure.Failure.{Failure}
use Rattle.mon_faults.specs.declared.fault.Fault.TheVariants.{App}
use Rattle.mon_survey.specs.declared.options.Options.{Options}
use Rattle.mon_survey.specs.declared.options.Peer.{Peer}
use Rattle.mon_survey.specs.declared.size.TargetSize.{TargetSize}
use Rattle.mon_udp.specs.Addr.{addr_of, addr_text}
use Rattle.mon_udp.specs.declared.addr.Addr.{Addr}
use Rattle.mon_settings_commands.specs.Named.{IsNoPeer, NamesPeer, file_name, given_or}
use Rattle.mon_settings_commands.specs.Source.{Source, peers_named}
use Rattle.mon_settings_commands.specs.declared.settings.Texts.{Texts}

-- an address with its port counted up
abbrev pub moved_up : ℕ → Addr → Addr
moved_up up a = record { octets = a.octets; port = a.port + up }

-- What is written for a text with its port counted up. A text that is no address stays as it is.
abbrev pub IsCounted : List ℕ → ℕ → List ℕ → Type 0
IsCounted text up written = ((addr_of text ≡ None) × (written ≡ text))
    ⊎ ((a : Addr) × (addr_of text ≡ Some a) × (a.port + up < 65536)
    × (written ≡ addr_text (moved_up up a)))

-- the port of the address that a text writes cannot be counted up so far, as the failure says
abbrev pub IsUncounted : ℕ → List ℕ → Failure → Type 0
IsUncounted up text failure = (a : Addr) × (addr_of text ≡ Some a) × (65536 ≤ a.port + up)
    × IsOfText text (codes "an address whose port can be counted up") failure

-- why a text's peer is not taken: it names none, or the port of its address cannot be counted up
abbrev pub IsUntakenPeer : ℕ → List ℕ → Failure → Type 0
IsUntakenPeer up text failure = IsNoPeer text failure
    ⊎ ((station : ℕ) × (address : List ℕ) × NamesPeer text station address
    × IsUncounted up address failure)

-- a peer is the one that a text names, with its port counted up
pub record IsPeer (up : ℕ) (text : List ℕ) (peer : Peer) : Type 0 where
  pub written : List ℕ
  pub named : NamesPeer text peer.station written
  pub address : IsCounted written up (string_bytes peer.address)

-- peers are those that texts name, in order
abbrev pub ArePeers : ℕ → List (List ℕ) → List Peer → Type 0
ArePeers up [] [] = Unit {0}
ArePeers up (text ∷ texts) (peer ∷ peers) = IsPeer up text peer × ArePeers up texts peers
ArePeers up [] (peer ∷ peers) = ⊥
ArePeers up (text ∷ texts) [] = ⊥

-- the texts that the arguments give: where a station listens, its file and its peers, counted up
pub record AreTexts (words : SettingsArgs) (up : ℕ) (t : Texts) : Type 0 where
  pub listen : IsCounted (given_or (codes "0.0.0.0:16101") (option_copied words.listen)) up
      (string_bytes t.listen)
  pub file : string_bytes t.file ≡ file_name (given_or (codes "station.mon")
      (option_copied words.file)) up
  pub peers : ArePeers up (peers_named words) t.peers.items

-- the options of a station whose ports and the number of whose file are counted up, by targets of
-- this size
pub record AreOptions (s : Source) (up : ℕ) (size : TargetSize) (o : Options) : Type 0 where
  pub station : o.station ≡ s.words.station
  pub window : o.window ≡ s.words.window
  pub wait_ms : o.wait_ms ≡ s.words.wait_ms
  pub tries : s.words.tries ≤ 8 → o.tries ≡ s.words.tries
  pub size_is : o.size ≡ size
  pub percent : s.asked.percent ≤ 100 → o.percent ≡ s.asked.percent
  pub listen : IsCounted (given_or (codes "0.0.0.0:16101") (option_copied s.words.listen)) up
      o.listen.now
  pub file : o.file.now ≡ file_name (given_or (codes "station.mon") (option_copied s.words.file)) up
  pub peers : ArePeers up (peers_named s.words) o.peers.now
  pub modules : o.modules.now ≡ s.words.modules.now
  pub address : o.address.now ≡ s.words.address.now
  pub community : o.community.now ≡ s.words.community.now

-- why there are no such options: a port cannot be counted up, a text names no peer, or memory ran
-- out
abbrev pub IsOfOptions : Failure → Type 0
IsOfOptions failure = IsMemory failure ⊎ (failure.fault ≡ App BadText)
