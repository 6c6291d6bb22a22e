use Rattle.std.proofs.Common.{◌++◌, List, ℕ, ap, sym}
use Rattle.mon_settings_commands.specs.Settings.{labels_words}
use Rattle.mon_settings_commands.proofs.Lines.{other_words, reads_as}
use Rattle.mon_settings_commands.proofs.failing.labels_text.Goals as goal

pub returns-in_default : goal.returns-in_default
returns-in_default c = reads_as c.format-in_default.result _ (c.args.path.now ++ labels_words c.args.fault) c.format-in_default.ensures.ok
    (ap (λ (w : List ℕ). c.args.path.now ++ w) (sym (other_words c.args.fault c.in_default.not-Misread c.in_default.not-SameEngine c.in_default.not-TooManyInterfaces)))
