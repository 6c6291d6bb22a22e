use Rattle.std.proofs.Common.{length}
use Rattle.mon_settings_commands.proofs.updating.+note_lines.Given as goal

-- how many are left
abbrev pub decreases-note_lines : goal.decreases-note_lines
decreases-note_lines g l = length l.lines.now
