use Rattle.std.proofs.Common.{◌≡◌, ◌++◌, drop, string_bytes}
use Rattle.mon_survey.specs.Text.{objects_from}
use Rattle.mon_survey.proofs.drafting.put_objects.Given as goal

-- with the objects that are left the text is that of all
abbrev pub invariant-loop-place : goal.invariant-loop-place
invariant-loop-place g l =
    string_bytes l.text ++ objects_from (g.S.NameTexts.shown l.around.shown.now.names.now) l.around.options.now l.around.engine.now l.around.shown.now.answers.now l.around.count l.place (drop l.place l.planned)
    ≡ string_bytes l.initial.text ++ objects_from (g.S.NameTexts.shown l.around.shown.now.names.now) l.around.options.now l.around.engine.now l.around.shown.now.answers.now l.around.count 0 l.planned
