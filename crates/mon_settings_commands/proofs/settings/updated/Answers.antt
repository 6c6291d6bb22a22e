use Rattle.std.proofs.Common.{◌∙◌, ap, string_bytes}
use Rattle.mon_settings_commands.specs.Source.{source_in}
use Rattle.mon_settings_commands.specs.declared.settings.Texts.{Texts}
use Rattle.mon_settings_commands.proofs.Made.{options}
use Rattle.mon_settings_commands.proofs.Renewed.{renewed}
use Rattle.mon_settings_commands.proofs.settings.updated.Goals as goal

pub returns : goal.returns
returns c =
    let o = c.options_of-options.result in
    let os = c.options_of-options.ensures in
    let lent = c.lend-lent.ensures in
    let made = options (source_in c.args.input.now) 0 c.args.size c.in_ok-texts.texts o c.in_ok-texts.ensures.texts os.station os.window os.wait_ms (os.size ∙ lent.size) os.tries os.same
    (os.listen ∙ ap (λ (t : Texts). string_bytes t.listen) lent.texts) (os.file ∙ ap (λ (t : Texts). string_bytes t.file) lent.texts)
    (os.peers ∙ ap (λ (t : Texts). t.peers.items) lent.texts) (os.modules ∙ lent.modules) (os.address ∙ lent.address) (os.community ∙ lent.community) in
    renewed (source_in c.args.input.now) c.args.news.existing.now c.args.news.known.now c.args.size o c.updated_on.result made c.updated_on.ensures
