use Rattle.std.proofs.Common.{drop}
use Rattle.mon_settings_commands.proofs.Writing.{Leads}
use Rattle.mon_settings_commands.proofs.parts.write_all.Given as goal

-- whatever becomes of the settings that are left becomes of all of them
abbrev pub invariant-loop-place : goal.invariant-loop-place
invariant-loop-place g l = Leads l.fn.folder l.place l.parts (drop l.place l.parts) (g.H.Host.log l.fn.host) (g.H.Host.log l.host)
