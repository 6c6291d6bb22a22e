use Rattle.std.proofs.Common.{◌-◌, length}
use Rattle.mon_settings_commands.proofs.Looking.{LooksOn}
use Rattle.mon_settings_commands.proofs.parts.require_absent.Given as goal

-- whatever becomes of the paths that are left becomes of all of them
abbrev pub invariant-loop-place : goal.invariant-loop-place
invariant-loop-place g l = LooksOn l.fn.folder l.place (length l.parts) (length l.parts - l.place) (g.H.Host.log l.fn.host) (g.H.Host.log l.host)
