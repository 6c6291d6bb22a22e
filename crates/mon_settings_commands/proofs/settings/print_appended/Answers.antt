use Rattle.std.proofs.Common.{List, ℕ, subst}
use Rattle.std.specs.Prelude.{Ok, option_copied}
use Rattle.mon_client.specs.Network.{agents_by}
use Rattle.mon_host.specs.Log.{GoesOnBy}
use Rattle.mon_host.proofs.Promised.{then_follows}
use Rattle.mon_settings_commands.specs.Appended.{AreOldLabels, IsAlone, IsAppendedOf, IsExisting, IsLonger}
use Rattle.mon_settings_commands.specs.AgentOptions.{IsAsking}
use Rattle.mon_settings_commands.specs.Command.{source}
use Rattle.mon_settings_commands.specs.Fitting.{AreFitting}
use Rattle.mon_settings_commands.proofs.Sequences.{AfterAlone, AfterExisting, AfterFit, AfterOld, AfterSurvey}
use Rattle.mon_settings_commands.proofs.Turns.{fails, fails_quietly, quietly_then}
use Rattle.mon_settings_commands.proofs.settings.print_appended.Goals as goal

pub returns-in_err-require_alone : goal.returns-in_err-require_alone
returns-in_err-require_alone g c =
    let agents = agents_by (g.N.Opens.has_opened c.args.net.now) (g.N.Opens.has_failed c.args.net.now) g.N.Wire.Wire.log in
    fails_quietly (IsAlone c.args.addition.words.now) (AfterAlone agents c.args.addition.words.now c.args.asked c.args.addition.path.now) c.in_err-require_alone.field-0.0 c.from_residual.result
    (g.H.Host.log c.args.host.now) c.from_residual.ensures.1 c.in_err-require_alone.ensures

pub returns-in_err-old : goal.returns-in_err-old
returns-in_err-old g c =
    let agents = agents_by (g.N.Opens.has_opened c.args.net.now) (g.N.Opens.has_failed c.args.net.now) g.N.Wire.Wire.log in
    let words = c.args.addition.words.now in
    let asked = c.args.asked in
    let path = c.args.addition.path.now in
    let before = g.H.Host.log c.args.host.now in
    let read = g.H.Host.log c.existing_in.new.host in
    let end = g.H.Host.log c.old_labels.new.host in
    let existing = c.in_ok-existing.existing in
    let r = c.from_residual-in_err-old.result in
    quietly_then (IsAlone words) (AfterAlone agents words asked path) c.in_ok-require_alone.field-0 r before end c.in_ok-require_alone.ensures
    (then_follows (IsExisting path) (AfterExisting agents words asked) (Ok existing) r before read end c.in_ok-existing.ensures
    (fails (AreOldLabels (option_copied words.labels)) (AfterOld agents words asked existing) c.in_err-old.field-0.0 r read end c.from_residual-in_err-old.ensures.1 c.in_err-old.ensures))

pub returns-in_err-survey : goal.returns-in_err-survey
returns-in_err-survey g c =
    let agents = agents_by (g.N.Opens.has_opened c.args.net.now) (g.N.Opens.has_failed c.args.net.now) g.N.Wire.Wire.log in
    let words = c.args.addition.words.now in
    let asked = c.args.asked in
    let path = c.args.addition.path.now in
    let before = g.H.Host.log c.args.host.now in
    let read = g.H.Host.log c.existing_in.new.host in
    let labelled = g.H.Host.log c.old_labels.new.host in
    let end = g.H.Host.log c.ask_agent.new.host in
    let existing = c.in_ok-existing.existing in
    let old = c.in_ok-old.old in
    let r = c.from_residual-in_err-survey.result in
    quietly_then (IsAlone words) (AfterAlone agents words asked path) c.in_ok-require_alone.field-0 r before end c.in_ok-require_alone.ensures
    (then_follows (IsExisting path) (AfterExisting agents words asked) (Ok existing) r before read end c.in_ok-existing.ensures
    (then_follows (AreOldLabels (option_copied words.labels)) (AfterOld agents words asked existing) (Ok old) r read labelled end c.in_ok-old.ensures
    (fails (IsAsking agents asked) (AfterSurvey agents words asked existing old) c.in_err-survey.field-0.0 r labelled end c.from_residual-in_err-survey.ensures.1 c.in_err-survey.ensures)))

pub returns-in_err-drafted : goal.returns-in_err-drafted
returns-in_err-drafted g c =
    let agents = agents_by (g.N.Opens.has_opened c.args.net.now) (g.N.Opens.has_failed c.args.net.now) g.N.Wire.Wire.log in
    let words = c.args.addition.words.now in
    let asked = c.args.asked in
    let path = c.args.addition.path.now in
    let before = g.H.Host.log c.args.host.now in
    let read = g.H.Host.log c.existing_in.new.host in
    let labelled = g.H.Host.log c.old_labels.new.host in
    let surveyed = g.H.Host.log c.ask_agent.new.host in
    let existing = c.in_ok-existing.existing in
    let old = c.in_ok-old.old in
    let survey = c.in_ok-survey.survey in
    let r = c.from_residual-in_err-drafted.result in
    quietly_then (IsAlone words) (AfterAlone agents words asked path) c.in_ok-require_alone.field-0 r before surveyed c.in_ok-require_alone.ensures
    (then_follows (IsExisting path) (AfterExisting agents words asked) (Ok existing) r before read surveyed c.in_ok-existing.ensures
    (then_follows (AreOldLabels (option_copied words.labels)) (AfterOld agents words asked existing) (Ok old) r read labelled surveyed c.in_ok-old.ensures
    (then_follows (IsAsking agents asked) (AfterSurvey agents words asked existing old) (Ok survey) r labelled surveyed surveyed c.in_ok-survey.ensures
    (fails_quietly (AreFitting agents asked (IsAppendedOf (source words asked existing.names survey) existing)) (AfterFit words asked existing old survey) c.in_err-drafted.field-0.0 r surveyed
    c.from_residual-in_err-drafted.ensures.1 c.in_err-drafted.ensures))))

pub returns : goal.returns
returns g c =
    let agents = agents_by (g.N.Opens.has_opened c.args.net.now) (g.N.Opens.has_failed c.args.net.now) g.N.Wire.Wire.log in
    let words = c.args.addition.words.now in
    let asked = c.args.asked in
    let path = c.args.addition.path.now in
    let before = g.H.Host.log c.args.host.now in
    let read = g.H.Host.log c.existing_in.new.host in
    let labelled = g.H.Host.log c.old_labels.new.host in
    let surveyed = g.H.Host.log c.ask_agent.new.host in
    let end = g.H.Host.log c.print_longer.new.host in
    let existing = c.in_ok-existing.existing in
    let old = c.in_ok-old.old in
    let survey = c.in_ok-survey.survey in
    let drafted = c.in_ok-drafted.drafted in
    let r = c.print_longer.result in
    quietly_then (IsAlone words) (AfterAlone agents words asked path) c.in_ok-require_alone.field-0 r before end c.in_ok-require_alone.ensures
    (then_follows (IsExisting path) (AfterExisting agents words asked) (Ok existing) r before read end c.in_ok-existing.ensures
    (then_follows (AreOldLabels (option_copied words.labels)) (AfterOld agents words asked existing) (Ok old) r read labelled end c.in_ok-old.ensures
    (then_follows (IsAsking agents asked) (AfterSurvey agents words asked existing old) (Ok survey) r labelled surveyed end c.in_ok-survey.ensures
    (quietly_then (AreFitting agents asked (IsAppendedOf (source words asked existing.names survey) existing)) (AfterFit words asked existing old survey) drafted r surveyed end c.in_ok-drafted.ensures
    (subst (λ (o : List ℕ). GoesOnBy (λ log. IsLonger (source words asked existing.names survey) drafted o log r) surveyed end) c.as_str.ensures.value c.print_longer.ensures)))))
