-- What follows each step of writing a network's settings.
use Rattle.std.proofs.Common.{List, ℕ, []}
use Rattle.std.specs.Global.{Vec}
use Rattle.std.specs.Prelude.{Result}
use Rattle.mon_client.specs.Network.{Agents}
use Rattle.mon_cli.specs.declared.meaning.SettingsArgs.{SettingsArgs}
use Rattle.mon_console.specs.declared.failure.Failure.{Failure}
use Rattle.mon_host.specs.AtHost.{AtHost}
use Rattle.mon_host.specs.Then.{Then}
use Rattle.mon_placing.specs.declared.machines.Machine.{Machine}
use Rattle.mon_smi.specs.declared.definition.Definition.{Definition}
use Rattle.mon_settings_commands.specs.AgentOptions.{IsAsking}
use Rattle.mon_settings_commands.specs.Command.{source}
use Rattle.mon_settings_commands.specs.Network.{AreMachines, Each, IsFileWritten, IsFree, IsNetworkNoted}
use Rattle.mon_settings_commands.specs.Settings.{AreLabels}
use Rattle.mon_settings_commands.specs.Source.{Source}
use Rattle.mon_settings_commands.specs.declared.asking.Survey.{Survey}
use Rattle.mon_settings_commands.specs.declared.network.Output.{Output}
use Rattle.mon_settings_commands.specs.declared.settings.AgentOptions.{AgentOptions}

abbrev pub AfterMade : Vec Output → Unit {0} → List AtHost → Result Unit Failure → Type 0
AfterMade xs done = Each IsFileWritten xs.items

abbrev pub AfterFree : Source → Vec Output → Unit {0} → List AtHost → Result Unit Failure → Type 0
AfterFree s xs done = Then (AreLabels s []) (AfterMade xs)

abbrev pub AfterFiles : Source → Vec Output → List AtHost → Result Unit Failure → Type 0
AfterFiles s xs = Then (Each IsFree xs.items) (AfterFree s xs)

abbrev pub AfterAnswers : Agents → SettingsArgs → AgentOptions → List ℕ → List Definition → Vec Machine → Survey → List AtHost → Result Unit Failure → Type 0
AfterAnswers agents words asked folder names machines survey = IsNetworkNoted agents (source words asked names survey) folder machines.items

abbrev pub AfterMachines : Agents → SettingsArgs → AgentOptions → List ℕ → List Definition → Vec Machine → List AtHost → Result Unit Failure → Type 0
AfterMachines agents words asked folder names machines = Then (IsAsking agents asked) (AfterAnswers agents words asked folder names machines)

abbrev pub AfterNames : Agents → SettingsArgs → AgentOptions → List ℕ → List ℕ → List Definition → List AtHost → Result Unit Failure → Type 0
AfterNames agents words asked folder path names = Then (AreMachines path words.stations) (AfterMachines agents words asked folder names)
