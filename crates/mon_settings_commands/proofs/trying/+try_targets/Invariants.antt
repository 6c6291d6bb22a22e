use Rattle.std.proofs.Common.{length}
use Rattle.mon_settings_commands.proofs.trying.+try_targets.Given as goal

-- how many targets are left
abbrev pub decreases-try_targets : goal.decreases-try_targets
decreases-try_targets g l = length l.targets.now
