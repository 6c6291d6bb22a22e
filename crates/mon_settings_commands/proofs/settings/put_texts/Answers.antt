use Rattle.std.proofs.Common.{Bor, List, ℕ, subst, sym}
use Rattle.std.specs.Prelude.{Option, option_copied}
use Rattle.mon_client.specs.Network.{agents_by}
use Rattle.mon_host.specs.Log.{GoesOnBy}
use Rattle.mon_settings_commands.specs.Command.{AreTextsFor}
use Rattle.mon_settings_commands.specs.Source.{source_in}
use Rattle.mon_settings_commands.proofs.settings.put_texts.Goals as goal

pub returns-in-Some : goal.returns-in-Some
returns-in-Some g c = subst (λ (p : Option (Bor (List ℕ))). GoesOnBy (λ log. AreTextsFor (agents_by (g.N.Opens.has_opened c.args.net.now) (g.N.Opens.has_failed c.args.net.now) g.N.Wire.Wire.log) (source_in c.args.input.now) (option_copied p) log c.write_parts.result)
    (g.H.Host.log c.args.host.now) (g.H.Host.log c.write_parts.new.host)) (sym c.in-Some.is) c.write_parts.ensures

pub returns-in-None : goal.returns-in-None
returns-in-None g c = subst (λ (p : Option (Bor (List ℕ))). GoesOnBy (λ log. AreTextsFor (agents_by (g.N.Opens.has_opened c.args.net.now) (g.N.Opens.has_failed c.args.net.now) g.N.Wire.Wire.log) (source_in c.args.input.now) (option_copied p) log c.print_whole.result)
    (g.H.Host.log c.args.host.now) (g.H.Host.log c.print_whole.new.host)) (sym c.in-None.is) c.print_whole.ensures
