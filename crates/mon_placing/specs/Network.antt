-- The stations of a network: where each runs, listens and serves, and how others find it.
use Rattle.std.specs.Prelude.{◌<◌, ◌≤◌, ℕ, zero, suc, ◌+◌, ◌-◌, ◌/◌, ◌%◌, ◌==◌, List, [], ◌++◌}
use Rattle.std.specs.Prelude.{codes, decimal, length, map, if◌then◌else◌}
use Rattle.std.proofs.Math.ListN.{get_or}
use Rattle.mon_udp.specs.Addr.{addr_text}
use Rattle.mon_udp.specs.declared.addr.Addr.{Addr}
use Rattle.mon_placing.specs.Machines.{Entry, listed}
use Rattle.mon_placing.specs.Placing.{machine_of}
use Rattle.mon_placing.specs.declared.network.Network.{Network}
use Rattle.mon_placing.specs.declared.network.Seat.{Seat}

-- a machine that no text lists
abbrev pub nowhere : Entry
nowhere = record { name = []; octets = [] }

-- The ports of this many groups can be written: those at which they listen, and those at which
-- they serve HTTP. There is a machine, and no group has more than 16 stations.
pub record ArePlaced (n : Network) (groups : ℕ) : Type 0 where
  pub machines : (1 ≤ length n.machines.now) × (length n.machines.now ≤ 1024)
  pub first : 1 ≤ n.first
  pub few : n.stations ≤ 16
  pub listen : n.port + n.first + groups ≤ 65537
  pub serve : n.first + groups ≤ 55836

-- a station of a group whose ports can be written
pub record IsSeat (s : Seat) : Type 0 where
  pub placed : ArePlaced s.network (s.part + 1)
  pub inside : s.station < s.network.stations

-- the station of this place in the group that comes after this many groups
abbrev pub seat : Network → (part station : ℕ) → Seat
seat n part station = record { network = n; part = part; station = station }

-- the station of this place, when the stations are counted group by group
abbrev pub seat_at : Network → ℕ → Seat
seat_at n place = seat n (place / n.stations) (place % n.stations)

-- the machine that a station runs on
abbrev pub machine_at : Seat → Entry
machine_at s = get_or (map listed s.network.machines.now)
    (machine_of s.network.stations (length s.network.machines.now) (s.network.first - 1 + s.part)
    s.station) nowhere

-- the number of a station's group, counted from 1 over the whole network
abbrev pub number_of : Seat → ℕ
number_of s = s.network.first + s.part

-- where a station listens: group 1 at the network's port, and each group one port further on
abbrev pub listens : Seat → Addr
listens s = record {
  octets = (machine_at s).octets;
  port = s.network.port
      + (s.network.first - 1 + s.part);
}

-- where a station serves HTTP: group 1 at port 9701, and each group one port further on
abbrev pub serves : Seat → Addr
serves s = record { octets = (machine_at s).octets; port = 9700 + number_of s }

-- the path of a station's settings in a folder
abbrev pub seat_path : List ℕ → Seat → List ℕ
seat_path folder s = folder ++ (codes "/group-" ++ (decimal (number_of s) ++ (codes "-station-"
    ++ (decimal (s.station + 1) ++ codes ".toml"))))

-- the name of its own file, which no other station of the network has
abbrev pub seat_file : List ℕ → Seat → List ℕ
seat_file file s = file ++ (codes "-" ++ (decimal (number_of s)
    ++ (codes "-" ++ decimal (s.station + 1))))

-- the text between two items, put before one that is not the first
abbrev pub separator : ℕ → List ℕ → List ℕ
separator place between = if place == 0 then [] else between

-- where a station serves HTTP, in quotes, after a comma unless it is the first of its group
abbrev pub host : Seat → List ℕ
host s = separator s.station (codes ", ") ++ (codes "\"" ++ (addr_text (serves s) ++ codes "\""))

-- where the first N stations of a group serve HTTP
abbrev pub hosts_of : Network → ℕ → ℕ → List ℕ
hosts_of n part zero = []
hosts_of n part (suc station) = hosts_of n part station ++ host (seat n part station)

-- the entry of a group in a file of targets: where its stations serve HTTP, and its name as a label
abbrev pub entry : Network → ℕ → List ℕ
entry n part = codes "  {\"targets\": [" ++ (hosts_of n part n.stations
    ++ (codes "], \"labels\": {\"group\": \"group-"
    ++ (decimal (n.first + part) ++ codes "\"}}")))

-- the entries of the first N groups, with commas between them
abbrev pub entries_of : Network → ℕ → List ℕ
entries_of n zero = []
entries_of n (suc part) = entries_of n part ++ (separator part (codes ",\n") ++ entry n part)

-- A file of targets, as Prometheus reads it (file_sd_config): a list of entries in JSON (RFC 8259).
abbrev pub targets_text : Network → ℕ → List ℕ
targets_text n groups = codes "[\n" ++ (entries_of n groups ++ codes "\n]\n")

-- the line of a station: the machine that it runs on, what it is called, and where it serves HTTP
abbrev pub unit_line : Seat → List ℕ
unit_line s = (machine_at s).name ++ (codes " group-" ++ (decimal (number_of s)
    ++ (codes "-station-"
    ++ (decimal (s.station + 1) ++ (codes " " ++ (addr_text (serves s) ++ codes "\n"))))))

-- the lines of the first N stations of a group
abbrev pub units_of : Network → ℕ → ℕ → List ℕ
units_of n part zero = []
units_of n part (suc station) = units_of n part station ++ unit_line (seat n part station)

-- the lines of the first N groups
abbrev pub unit_lines : Network → ℕ → List ℕ
unit_lines n zero = []
unit_lines n (suc part) = unit_lines n part ++ units_of n part n.stations

-- The units of a network: a line for each station, group by group.
abbrev pub units_text : Network → ℕ → List ℕ
units_text = unit_lines
