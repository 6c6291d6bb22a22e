use Rattle.std.proofs.Common.{List, ℕ, subst}
use Rattle.std.specs.Prelude.{Ok, option_copied}
use Rattle.mon_client.specs.Network.{agents_by}
use Rattle.mon_host.specs.Log.{GoesOnBy}
use Rattle.mon_host.proofs.Promised.{then_follows}
use Rattle.mon_settings_commands.specs.Appended.{AreOldLabels, IsExisting}
use Rattle.mon_settings_commands.specs.AgentOptions.{IsAsking}
use Rattle.mon_settings_commands.specs.Command.{IsUpdatedBy, source}
use Rattle.mon_settings_commands.specs.Updated.{IsApart}
use Rattle.mon_settings_commands.proofs.Sequences.{AfterApart, AfterNews, AfterOldNames, AfterThere}
use Rattle.mon_settings_commands.proofs.Turns.{fails, fails_quietly, quietly_then}
use Rattle.mon_settings_commands.proofs.updating.print_updated.Goals as goal

pub returns-in_err-require_apart : goal.returns-in_err-require_apart
returns-in_err-require_apart g c =
    let agents = agents_by (g.N.Opens.has_opened c.args.net.now) (g.N.Opens.has_failed c.args.net.now) g.N.Wire.Wire.log in
    fails_quietly (IsApart c.args.addition.words.now) (AfterApart agents c.args.addition.words.now c.args.asked c.args.addition.path.now) c.in_err-require_apart.field-0.0 c.from_residual.result
    (g.H.Host.log c.args.host.now) c.from_residual.ensures.1 c.in_err-require_apart.ensures

pub returns-in_err-labels : goal.returns-in_err-labels
returns-in_err-labels g c =
    let agents = agents_by (g.N.Opens.has_opened c.args.net.now) (g.N.Opens.has_failed c.args.net.now) g.N.Wire.Wire.log in
    let words = c.args.addition.words.now in
    let asked = c.args.asked in
    let path = c.args.addition.path.now in
    let before = g.H.Host.log c.args.host.now in
    let read = g.H.Host.log c.existing_in.new.host in
    let end = g.H.Host.log c.old_labels.new.host in
    let existing = c.in_ok-existing.existing in
    let r = c.from_residual-in_err-labels.result in
    quietly_then (IsApart words) (AfterApart agents words asked path) c.in_ok-require_apart.field-0 r before end c.in_ok-require_apart.ensures
    (then_follows (IsExisting path) (AfterThere agents words asked) (Ok existing) r before read end c.in_ok-existing.ensures
    (fails (AreOldLabels (option_copied words.labels)) (AfterOldNames agents words asked existing) c.in_err-labels.field-0.0 r read end c.from_residual-in_err-labels.ensures.1 c.in_err-labels.ensures))

pub returns-in_err-survey : goal.returns-in_err-survey
returns-in_err-survey g c =
    let agents = agents_by (g.N.Opens.has_opened c.args.net.now) (g.N.Opens.has_failed c.args.net.now) g.N.Wire.Wire.log in
    let words = c.args.addition.words.now in
    let asked = c.args.asked in
    let path = c.args.addition.path.now in
    let before = g.H.Host.log c.args.host.now in
    let read = g.H.Host.log c.existing_in.new.host in
    let labelled = g.H.Host.log c.old_labels.new.host in
    let end = g.H.Host.log c.ask_agent.new.host in
    let existing = c.in_ok-existing.existing in
    let old = c.in_ok-labels.labels in
    let r = c.from_residual-in_err-survey.result in
    quietly_then (IsApart words) (AfterApart agents words asked path) c.in_ok-require_apart.field-0 r before end c.in_ok-require_apart.ensures
    (then_follows (IsExisting path) (AfterThere agents words asked) (Ok existing) r before read end c.in_ok-existing.ensures
    (then_follows (AreOldLabels (option_copied words.labels)) (AfterOldNames agents words asked existing) (Ok old) r read labelled end c.in_ok-labels.ensures
    (fails (IsAsking agents asked) (AfterNews agents words asked existing old) c.in_err-survey.field-0.0 r labelled end c.from_residual-in_err-survey.ensures.1 c.in_err-survey.ensures)))

pub returns : goal.returns
returns g c =
    let agents = agents_by (g.N.Opens.has_opened c.args.net.now) (g.N.Opens.has_failed c.args.net.now) g.N.Wire.Wire.log in
    let words = c.args.addition.words.now in
    let asked = c.args.asked in
    let path = c.args.addition.path.now in
    let before = g.H.Host.log c.args.host.now in
    let read = g.H.Host.log c.existing_in.new.host in
    let labelled = g.H.Host.log c.old_labels.new.host in
    let surveyed = g.H.Host.log c.ask_agent.new.host in
    let end = g.H.Host.log c.write_updated.new.host in
    let existing = c.in_ok-existing.existing in
    let old = c.in_ok-labels.labels in
    let survey = c.in_ok-survey.survey in
    let r = c.write_updated.result in
    quietly_then (IsApart words) (AfterApart agents words asked path) c.in_ok-require_apart.field-0 r before end c.in_ok-require_apart.ensures
    (then_follows (IsExisting path) (AfterThere agents words asked) (Ok existing) r before read end c.in_ok-existing.ensures
    (then_follows (AreOldLabels (option_copied words.labels)) (AfterOldNames agents words asked existing) (Ok old) r read labelled end c.in_ok-labels.ensures
    (then_follows (IsAsking agents asked) (AfterNews agents words asked existing old) (Ok survey) r labelled surveyed end c.in_ok-survey.ensures
    (subst (λ (o : List ℕ). GoesOnBy (λ log. IsUpdatedBy agents (source words asked existing.names survey) existing o log r) surveyed end) c.as_str.ensures.value c.write_updated.ensures))))
