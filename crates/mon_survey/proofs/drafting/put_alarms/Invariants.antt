use Rattle.std.proofs.Common.{◌≡◌, ◌++◌, take, string_bytes}
use Rattle.std.specs.List.{flat_map}
use Rattle.mon_survey.specs.Text.{alarm_text}
use Rattle.mon_survey.proofs.drafting.put_alarms.Given as goal

-- the alarms so far
abbrev pub invariant-loop-one : goal.invariant-loop-one
invariant-loop-one g l = string_bytes l.text ≡ string_bytes l.initial.text ++ flat_map (alarm_text (g.S.NameTexts.shown l.shown.names.now) l.shown.answers.now l.percent l.engine) (take l.one-index l.planned)
