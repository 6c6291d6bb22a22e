use Rattle.std.proofs.Common.{Bor, List, ℕ, subst, sym}
use Rattle.std.specs.Prelude.{Option, option_copied}
use Rattle.mon_client.specs.Network.{agents_by}
use Rattle.mon_host.specs.Log.{GoesOnBy}
use Rattle.mon_settings_commands.specs.AgentOptions.{IsAsked}
use Rattle.mon_settings_commands.specs.Command.{AreSettingsBy}
use Rattle.mon_settings_commands.specs.declared.settings.AgentOptions.{AgentOptions}
use Rattle.mon_settings_commands.proofs.Turns.{fails_quietly, quietly_then}
use Rattle.mon_settings_commands.proofs.settings.print_settings.Goals as goal

pub returns-in-Some : goal.returns-in-Some
returns-in-Some g c =
    let agents = agents_by (g.N.Opens.has_opened c.args.net.now) (g.N.Opens.has_failed c.args.net.now) g.N.Wire.Wire.log in
    let words = c.args.words in
    let asked = c.in_ok-asked.asked in
    let now = g.H.Host.log c.args.host.now in
    let end = g.H.Host.log c.print_updated.new.host in
    quietly_then (IsAsked words) (λ (asked : AgentOptions). AreSettingsBy agents words asked (option_copied words.update)) asked c.print_updated.result now end c.in_ok-asked.ensures
    (subst (λ (p : Option (Bor (List ℕ))). GoesOnBy (λ log. AreSettingsBy agents words asked (option_copied p) log c.print_updated.result) now end) (sym c.in-Some.is) c.print_updated.ensures)

pub returns-in-None : goal.returns-in-None
returns-in-None g c =
    let agents = agents_by (g.N.Opens.has_opened c.args.net.now) (g.N.Opens.has_failed c.args.net.now) g.N.Wire.Wire.log in
    let words = c.args.words in
    let asked = c.in_ok-asked.asked in
    let now = g.H.Host.log c.args.host.now in
    let end = g.H.Host.log c.print_others.new.host in
    quietly_then (IsAsked words) (λ (asked : AgentOptions). AreSettingsBy agents words asked (option_copied words.update)) asked c.print_others.result now end c.in_ok-asked.ensures
    (subst (λ (p : Option (Bor (List ℕ))). GoesOnBy (λ log. AreSettingsBy agents words asked (option_copied p) log c.print_others.result) now end) (sym c.in-None.is) c.print_others.ensures)

pub returns-in_err-asked : goal.returns-in_err-asked
returns-in_err-asked g c =
    let agents = agents_by (g.N.Opens.has_opened c.args.net.now) (g.N.Opens.has_failed c.args.net.now) g.N.Wire.Wire.log in
    fails_quietly (IsAsked c.args.words) (λ (asked : AgentOptions). AreSettingsBy agents c.args.words asked (option_copied c.args.words.update)) c.in_err-asked.field-0.0 c.from_residual.result
    (g.H.Host.log c.args.host.now) c.from_residual.ensures.1 c.in_err-asked.ensures
