use Rattle.std.proofs.Common.{drop}
use Rattle.mon_settings_commands.specs.Walked.{stand}
use Rattle.mon_settings_commands.proofs.Turning.{LeadsOn}
use Rattle.mon_settings_commands.proofs.asking.take_all.Given as goal

-- whatever becomes of the variables that are left becomes of all of them
abbrev pub invariant-loop-binding : goal.invariant-loop-binding
invariant-loop-binding l = LeadsOn l.agent (stand l.fn.place l.fn.answers) l.fn.bindings (stand l.place l.answers) (drop l.binding-index l.bindings)
