use Rattle.std.proofs.Common.{◌≡◌, length}
use Rattle.mon_client.specs.Network.{agents_by}
use Rattle.mon_settings_commands.specs.Network.{AreSeatFiles}
use Rattle.mon_settings_commands.specs.Source.{source_in}
use Rattle.mon_settings_commands.proofs.network.seats_of.Given as goal

-- these are the files of the stations so far
abbrev pub invariant-loop-place : goal.invariant-loop-place
invariant-loop-place g l = (length l.seats.items ≡ l.place)
    × AreSeatFiles (agents_by (g.N.Opens.has_opened l.fn.net) (g.N.Opens.has_failed l.fn.net) g.N.Wire.Wire.log) (source_in l.fn.input) l.fn.files.folder.now l.fn.files.network 0 l.seats.items
