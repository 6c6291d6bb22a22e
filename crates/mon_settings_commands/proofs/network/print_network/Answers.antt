use Rattle.std.proofs.Common.{Bor, List, ℕ, map, subst}
use Rattle.std.specs.Prelude.{Ok}
use Rattle.mon_client.specs.Network.{agents_by}
use Rattle.mon_console.specs.Naming.{AreNames}
use Rattle.mon_host.specs.AtHost.{AtHost}
use Rattle.mon_host.specs.Log.{GoesOnBy}
use Rattle.mon_host.proofs.Promised.{then_follows, weaker}
use Rattle.mon_placing.specs.declared.machines.Machine.{Machine}
use Rattle.mon_settings_commands.specs.AgentOptions.{IsAsking}
use Rattle.mon_settings_commands.specs.Command.{source}
use Rattle.mon_settings_commands.specs.Network.{AreMachines, IsNetworkNoted, IsNetworkOf, IsNoted}
use Rattle.mon_settings_commands.proofs.Networks.{AfterAnswers, AfterMachines, AfterNames}
use Rattle.mon_settings_commands.proofs.Turns.{fails}
use Rattle.mon_settings_commands.proofs.network.print_network.Goals as goal

pub returns-in_err-machines : goal.returns-in_err-machines
returns-in_err-machines g c =
    let agents = agents_by (g.N.Opens.has_opened c.args.net.now) (g.N.Opens.has_failed c.args.net.now) g.N.Wire.Wire.log in
    let words = c.args.layout.words.now in
    let asked = c.args.asked in
    let folder = c.args.layout.paths.folder.now in
    let path = c.args.layout.paths.machines.now in
    let before = g.H.Host.log c.args.host.now in
    let named = g.H.Host.log c.names_of.new.host in
    let read = g.H.Host.log c.machines_at.new.host in
    let names = c.in_ok-names.names in
    let r = c.from_residual-in_err-machines.result in
    then_follows (AreNames (map (λ (m : Bor (List ℕ)). m.now) words.modules.now)) (AfterNames agents words asked folder path) (Ok names) r before named read c.in_ok-names.ensures
    (fails (AreMachines path words.stations) (AfterMachines agents words asked folder names) c.in_err-machines.field-0.0 r named read c.from_residual-in_err-machines.ensures.1 c.in_err-machines.ensures.listed)

pub returns-in_err-survey : goal.returns-in_err-survey
returns-in_err-survey g c =
    let agents = agents_by (g.N.Opens.has_opened c.args.net.now) (g.N.Opens.has_failed c.args.net.now) g.N.Wire.Wire.log in
    let words = c.args.layout.words.now in
    let asked = c.args.asked in
    let folder = c.args.layout.paths.folder.now in
    let path = c.args.layout.paths.machines.now in
    let before = g.H.Host.log c.args.host.now in
    let named = g.H.Host.log c.names_of.new.host in
    let read = g.H.Host.log c.machines_at.new.host in
    let surveyed = g.H.Host.log c.ask_agent.new.host in
    let names = c.in_ok-names.names in
    let machines = c.in_ok-machines.machines in
    let r = c.from_residual-in_err-survey.result in
    then_follows (AreNames (map (λ (m : Bor (List ℕ)). m.now) words.modules.now)) (AfterNames agents words asked folder path) (Ok names) r before named surveyed c.in_ok-names.ensures
    (then_follows (AreMachines path words.stations) (AfterMachines agents words asked folder names) (Ok machines) r named read surveyed c.in_ok-machines.ensures.listed
    (fails (IsAsking agents asked) (AfterAnswers agents words asked folder names machines) c.in_err-survey.field-0.0 r read surveyed c.from_residual-in_err-survey.ensures.1 c.in_err-survey.ensures))

pub returns : goal.returns
returns g c =
    let agents = agents_by (g.N.Opens.has_opened c.args.net.now) (g.N.Opens.has_failed c.args.net.now) g.N.Wire.Wire.log in
    let words = c.args.layout.words.now in
    let asked = c.args.asked in
    let folder = c.args.layout.paths.folder.now in
    let path = c.args.layout.paths.machines.now in
    let before = g.H.Host.log c.args.host.now in
    let named = g.H.Host.log c.names_of.new.host in
    let read = g.H.Host.log c.machines_at.new.host in
    let surveyed = g.H.Host.log c.ask_agent.new.host in
    let end = g.H.Host.log c.write_noted.new.host in
    let names = c.in_ok-names.names in
    let machines = c.in_ok-machines.machines in
    let survey = c.in_ok-survey.survey in
    let r = c.write_noted.result in
    let n = c.files_of-files.result.network in
    let s = source words asked names survey in
    let is = subst (λ (ms : List Machine). IsNetworkOf words ms n) c.as_slice.ensures.value c.files_of-files.ensures.network in
    let noted = subst (λ (f : List ℕ). GoesOnBy (λ log. IsNoted agents s f n log r) surveyed end) c.files_of-files.ensures.folder c.write_noted.ensures in
    let last = weaker (λ (log : List AtHost). IsNoted agents s folder n log r) (λ (log : List AtHost). IsNetworkNoted agents s folder machines.items log r) surveyed end (λ log holds. (n, is, holds)) noted in
    then_follows (AreNames (map (λ (m : Bor (List ℕ)). m.now) words.modules.now)) (AfterNames agents words asked folder path) (Ok names) r before named end c.in_ok-names.ensures
    (then_follows (AreMachines path words.stations) (AfterMachines agents words asked folder names) (Ok machines) r named read end c.in_ok-machines.ensures.listed
    (then_follows (IsAsking agents asked) (AfterAnswers agents words asked folder names machines) (Ok survey) r read surveyed end c.in_ok-survey.ensures last))
