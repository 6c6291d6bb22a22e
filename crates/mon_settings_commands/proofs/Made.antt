-- The options and texts of settings.
use Rattle.std.proofs.Common.{◌≡◌, ◌≤◌, ◌++◌, ◌∙◌, List, ℕ, [], sym, ap, subst}
use Rattle.std.specs.Prelude.{Result, Ok, Err, OnOk, codes, option_copied, string_bytes}
use Rattle.mon_cli.specs.declared.meaning.SettingsArgs.{SettingsArgs}
use Rattle.mon_console.specs.declared.failure.Failure.{Failure}
use Rattle.mon_survey.specs.declared.options.Options.{Options}
use Rattle.mon_survey.specs.declared.options.Peer.{Peer}
use Rattle.mon_survey.specs.declared.size.TargetSize.{TargetSize}
use Rattle.mon_settings_commands.specs.Named.{file_name, given_or}
use Rattle.mon_settings_commands.specs.Source.{Source, peers_named}
use Rattle.mon_settings_commands.specs.Texts.{AreOptions, ArePeers, AreTexts, IsCounted}
use Rattle.mon_settings_commands.specs.declared.settings.Texts.{Texts}

-- the texts of options are those that were made
pub options : (s : Source) (up : ℕ) (size : TargetSize) (t : Texts) (o : Options) → AreTexts s.words up t → o.station ≡ s.words.station → o.window ≡ s.words.window → o.wait_ms ≡ s.words.wait_ms → o.size ≡ size
    → (s.words.tries ≤ 8 → o.tries ≡ s.words.tries) → (s.asked.percent ≤ 100 → o.percent ≡ s.asked.percent) → o.listen.now ≡ string_bytes t.listen → o.file.now ≡ string_bytes t.file
    → o.peers.now ≡ t.peers.items → o.modules.now ≡ s.words.modules.now → o.address.now ≡ s.words.address.now → o.community.now ≡ s.words.community.now → AreOptions s up size o
options s up size t o texts station window wait_ms size_is tries percent listen file peers modules address community = record {
  station = station;
  window = window;
  wait_ms = wait_ms;
  tries = tries;
  size_is = size_is;
  percent = percent;
  listen = subst (λ (w : List ℕ). IsCounted (given_or (codes "0.0.0.0:16101") (option_copied s.words.listen)) up w) (sym listen) texts.listen;
  file = file ∙ texts.file;
  peers = subst (λ (ps : List Peer). ArePeers up (peers_named s.words) ps) (sym peers) texts.peers;
  modules = modules;
  address = address;
  community = community;
}

-- texts that were put into empty ones
pub put : (words : SettingsArgs) (up : ℕ) (t : Texts) (before : List Peer) (r : Result Unit Failure) → IsCounted (given_or (codes "0.0.0.0:16101") (option_copied words.listen)) up (string_bytes t.listen)
    → string_bytes t.file ≡ file_name (given_or (codes "station.mon") (option_copied words.file)) up → before ≡ []
    → OnOk r ((more : List Peer) × (t.peers.items ≡ before ++ more) × ArePeers up (peers_named words) more) → OnOk r (AreTexts words up t)
put words up t before (Err failure) listen file none peers = tt
put words up t before (Ok done) listen file none (more, are, named) = record {
  listen = listen;
  file = file;
  peers = subst (λ (ps : List Peer). ArePeers up (peers_named words) ps) (sym (are ∙ ap (λ b. b ++ more) none)) named;
}
