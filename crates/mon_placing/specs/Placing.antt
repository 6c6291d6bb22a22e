-- On which machine each station of a network runs.
use Rattle.std.specs.Prelude.{ℕ, zero, suc, ◌+◌, ◌*◌, ◌%◌, ◌==◌, Bool, true, false}

-- The machine of a station of a group, all counted from 0. The stations of the first group run on
-- the first machines, those of the next group on those after them, and after the last machine comes
-- the first one again.
unfoldable pub machine_of : (stations machines group station : ℕ) → ℕ
machine_of stations machines group station = (group * stations + station) % machines

-- 1 if something is so, else 0
abbrev pub tally : Bool → ℕ
tally true = 1
tally false = 0

-- how many of the first N stations of a group run on a machine
abbrev pub on_machine : (stations machines machine group : ℕ) → ℕ → ℕ
on_machine stations machines machine group zero = 0
on_machine stations machines machine group (suc station) =
    on_machine stations machines machine group station + tally
    (machine_of stations machines group station == machine)

-- how many stations of the first N groups run on a machine
abbrev pub stations_on : (stations machines machine : ℕ) → ℕ → ℕ
stations_on stations machines machine zero = 0
stations_on stations machines machine (suc group) =
    stations_on stations machines machine group + on_machine stations machines machine group
    stations
