use Rattle.std.proofs.Common.{drop}
use Rattle.mon_settings_commands.specs.Network.{IsFileWritten}
use Rattle.mon_settings_commands.proofs.Elements.{LeavesRest}
use Rattle.mon_settings_commands.proofs.network.write_outputs.Given as goal

-- whatever becomes of the files that are left becomes of all of them
abbrev pub invariant-loop-place : goal.invariant-loop-place
invariant-loop-place g l = LeavesRest IsFileWritten l.outputs (drop l.place l.outputs) (g.H.Host.log l.fn.host) (g.H.Host.log l.host)
