use Rattle.std.proofs.Common.{◌≡◌, length}
use Rattle.mon_client.specs.Network.{agents_by}
use Rattle.mon_settings_commands.specs.Parts.{AreGroupsFrom}
use Rattle.mon_settings_commands.specs.Source.{source_in}
use Rattle.mon_settings_commands.proofs.parts.parts_of.Given as goal

-- these are the settings of the groups so far
abbrev pub invariant-loop-group : goal.invariant-loop-group
invariant-loop-group g l = (length l.parts.items ≡ l.group) × AreGroupsFrom (agents_by (g.N.Opens.has_opened l.fn.net) (g.N.Opens.has_failed l.fn.net) g.N.Wire.Wire.log) (source_in l.fn.input) 0 l.parts.items
