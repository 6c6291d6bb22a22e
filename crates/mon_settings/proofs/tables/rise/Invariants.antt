use Rattle.std.proofs.Common.{◌≡◌, drop}
use Rattle.mon_settings.specs.Interfaces.{rise_from}
use Rattle.mon_settings.proofs.tables.rise.Given as goal

abbrev pub invariant-loop-interface : goal.invariant-loop-interface
invariant-loop-interface l = rise_from 0 l.interfaces ≡ rise_from l.last (drop l.interface-index l.interfaces)
