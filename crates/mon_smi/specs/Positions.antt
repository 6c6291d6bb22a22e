-- Lines and columns of a text.
use Rattle.std.specs.Prelude.{ℕ, ◌+◌, List, ◌==◌, if◌then◌else◌}
use Rattle.std.specs.List.{fold}
use Rattle.mon_smi.specs.declared.position.Position.{Position}

-- the first octet of a text
abbrev pub first_position : Position
first_position = record { line = 1; column = 1 }

-- the octet after this one: a line feed ends its line
abbrev pub position_after : Position → ℕ → Position
position_after p octet = if octet == 10 then record { line = p.line + 1; column = 1 }
    else record { line = p.line; column = p.column + 1 }

-- the place after these octets
abbrev pub position_behind : List ℕ → Position
position_behind octets = fold position_after first_position octets
