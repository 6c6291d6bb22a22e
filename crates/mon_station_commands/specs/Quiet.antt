-- What changes nothing outside a program.
use Rattle.std.specs.Prelude.{◌≡◌, Bool, true, false, List}
use Rattle.std.specs.List.{list_all}
use Rattle.mon_host.specs.AtHost.{AtHost, Dated, NodeFound, NodeUnfound, Noted, Timed}

-- whether an event is one of these: a clock gave the time, a line was sent to standard error, or it
-- was asked which file is at a path
abbrev pub is_quiet : AtHost → Bool
is_quiet (Timed now) = true
is_quiet (Dated now) = true
is_quiet (Noted level octets) = true
is_quiet (NodeFound path found) = true
is_quiet (NodeUnfound path why) = true
is_quiet _ = false

-- Nothing was printed, read, written or replaced: a clock gave the time, lines were sent to
-- standard error, or it was asked which file is at a path.
abbrev pub AreQuiet : List AtHost → Type 0
AreQuiet log = list_all is_quiet log ≡ true
