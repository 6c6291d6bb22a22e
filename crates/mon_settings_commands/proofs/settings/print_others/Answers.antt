use Rattle.std.proofs.Common.{Bor, List, ℕ, subst, sym}
use Rattle.std.specs.Prelude.{Option, option_copied}
use Rattle.mon_client.specs.Network.{agents_by}
use Rattle.mon_host.specs.Log.{GoesOnBy}
use Rattle.mon_settings_commands.specs.Command.{AreSettingsFor}
use Rattle.mon_settings_commands.proofs.settings.print_others.Goals as goal

pub returns-in-Some : goal.returns-in-Some
returns-in-Some g c =
    let agents = agents_by (g.N.Opens.has_opened c.args.net.now) (g.N.Opens.has_failed c.args.net.now) g.N.Wire.Wire.log in
    subst (λ (p : Option (Bor (List ℕ))). GoesOnBy (λ log. AreSettingsFor agents c.args.words.now c.args.asked (option_copied p) log c.print_appended.result) (g.H.Host.log c.args.host.now) (g.H.Host.log c.print_appended.new.host)) (sym c.in-Some.is) c.print_appended.ensures

pub returns-in-None : goal.returns-in-None
returns-in-None g c =
    let agents = agents_by (g.N.Opens.has_opened c.args.net.now) (g.N.Opens.has_failed c.args.net.now) g.N.Wire.Wire.log in
    subst (λ (p : Option (Bor (List ℕ))). GoesOnBy (λ log. AreSettingsFor agents c.args.words.now c.args.asked (option_copied p) log c.print_fresh.result) (g.H.Host.log c.args.host.now) (g.H.Host.log c.print_fresh.new.host)) (sym c.in-None.is) c.print_fresh.ensures
