use Rattle.mon_survey.specs.Size.{objects_in}
use Rattle.mon_settings_commands.proofs.trying.+fit.Given as goal

-- of how many objects targets are
abbrev pub decreases-fit : goal.decreases-fit
decreases-fit g l = objects_in l.size
