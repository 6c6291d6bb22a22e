use Rattle.std.proofs.Common.{List, ℕ, sym, subst, ap, ◌∙◌}
use Rattle.std.specs.Prelude.{Option, option_copied, option_map}
use Rattle.mon_client.specs.Network.{agents_by}
use Rattle.mon_host.specs.Log.{GoesOnBy}
use Rattle.mon_settings_commands.specs.Command.{AreFreshSettings}
use Rattle.mon_settings_commands.specs.declared.network.SplitPaths.{SplitPaths}
use Rattle.mon_settings_commands.proofs.settings.print_fresh.Goals as goal

pub returns-in-Some : goal.returns-in-Some
returns-in-Some g c =
    let agents = agents_by (g.N.Opens.has_opened c.args.net.now) (g.N.Opens.has_failed c.args.net.now) g.N.Wire.Wire.log in
    let is = ap (option_map (λ (s : SplitPaths). (s.folder.now, s.machines.now))) (sym c.in-Some.is) ∙ c.split_paths_of.ensures in
    subst (λ (p : Option (List ℕ × List ℕ)). GoesOnBy (λ log. AreFreshSettings agents c.args.words.now c.args.asked p log c.print_network.result) (g.H.Host.log c.args.host.now) (g.H.Host.log c.print_network.new.host)) is c.print_network.ensures

pub returns-in-None : goal.returns-in-None
returns-in-None g c =
    let agents = agents_by (g.N.Opens.has_opened c.args.net.now) (g.N.Opens.has_failed c.args.net.now) g.N.Wire.Wire.log in
    let is = ap (option_map (λ (s : SplitPaths). (s.folder.now, s.machines.now))) (sym c.in-None.is) ∙ c.split_paths_of.ensures in
    subst (λ (p : Option (List ℕ × List ℕ)). GoesOnBy (λ log. AreFreshSettings agents c.args.words.now c.args.asked p log c.print_new.result) (g.H.Host.log c.args.host.now) (g.H.Host.log c.print_new.new.host)) is c.print_new.ensures
