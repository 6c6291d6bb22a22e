use Rattle.std.proofs.Common.{Bor, List, ℕ, map}
use Rattle.std.specs.Prelude.{Ok}
use Rattle.mon_client.specs.Network.{agents_by}
use Rattle.mon_console.specs.Naming.{AreNames}
use Rattle.mon_host.specs.Then.{Then}
use Rattle.mon_host.proofs.Promised.{then_follows}
use Rattle.mon_smi.specs.declared.definition.Definition.{Definition}
use Rattle.mon_settings_commands.specs.AgentOptions.{IsAsking}
use Rattle.mon_settings_commands.specs.Command.{AreNewTexts, source}
use Rattle.mon_settings_commands.specs.declared.asking.Survey.{Survey}
use Rattle.mon_settings_commands.proofs.Turns.{fails}
use Rattle.mon_settings_commands.proofs.settings.print_new.Goals as goal

pub returns : goal.returns
returns g c =
    let agents = agents_by (g.N.Opens.has_opened c.args.net.now) (g.N.Opens.has_failed c.args.net.now) g.N.Wire.Wire.log in
    let words = c.args.words.now in
    let asked = c.args.asked in
    let before = g.H.Host.log c.args.host.now in
    let named = g.H.Host.log c.names_of.new.host in
    let surveyed = g.H.Host.log c.ask_agent.new.host in
    let end = g.H.Host.log c.write_new.new.host in
    let names = c.in_ok-names.names in
    let survey = c.in_ok-survey.survey in
    let r = c.write_new.result in
    then_follows (AreNames (map (λ (m : Bor (List ℕ)). m.now) words.modules.now)) (λ (names : List Definition). Then (IsAsking agents asked) (λ (survey : Survey). AreNewTexts agents (source words asked names survey)))
    (Ok names) r before named end c.in_ok-names.ensures
    (then_follows (IsAsking agents asked) (λ (survey : Survey). AreNewTexts agents (source words asked names survey)) (Ok survey) r named surveyed end c.in_ok-survey.ensures c.write_new.ensures)

pub returns-in_err-survey : goal.returns-in_err-survey
returns-in_err-survey g c =
    let agents = agents_by (g.N.Opens.has_opened c.args.net.now) (g.N.Opens.has_failed c.args.net.now) g.N.Wire.Wire.log in
    let words = c.args.words.now in
    let asked = c.args.asked in
    let before = g.H.Host.log c.args.host.now in
    let named = g.H.Host.log c.names_of.new.host in
    let surveyed = g.H.Host.log c.ask_agent.new.host in
    let names = c.in_ok-names.names in
    let r = c.from_residual-in_err-survey.result in
    then_follows (AreNames (map (λ (m : Bor (List ℕ)). m.now) words.modules.now)) (λ (names : List Definition). Then (IsAsking agents asked) (λ (survey : Survey). AreNewTexts agents (source words asked names survey)))
    (Ok names) r before named surveyed c.in_ok-names.ensures
    (fails (IsAsking agents asked) (λ (survey : Survey). AreNewTexts agents (source words asked names survey)) c.in_err-survey.field-0.0 r named surveyed c.from_residual-in_err-survey.ensures.1 c.in_err-survey.ensures)
