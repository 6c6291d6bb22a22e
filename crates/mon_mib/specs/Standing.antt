-- What the code says of an object.
use Rattle.mon_mib.specs.declared.row.Row as code
use Rattle.mon_mib.specs.Objects.{Row}

-- what a row of the code says
abbrev pub as_row : code.Row → Row
as_row r = record { prefix = r.prefix.now; syntax = r.syntax; access = r.access }
