use Rattle.std.proofs.Common.{drop}
use Rattle.mon_survey.specs.Column.{columns}
use Rattle.mon_settings_commands.proofs.Turning.{LeadsThrough}
use Rattle.mon_settings_commands.proofs.asking.walk_columns.Given as goal

-- whatever becomes of the columns that are left becomes of all of them
abbrev pub invariant-loop-column : goal.invariant-loop-column
invariant-loop-column g l = LeadsThrough l.asked.agent.word.now l.asked.kinds l.asked.community.now columns l.fn.answers l.fn.asker.last_id (g.W.Wire.log l.fn.asker.wire)
    (drop l.column-index columns) l.answers l.asker.last_id (g.W.Wire.log l.asker.wire)
