-- How a device and an interface are named.
use Rattle.std.specs.Prelude.{ℕ, ◌-◌, List, [], ◌∷◌, ◌++◌, length, take, drop, Option, Some, None}
use Rattle.std.specs.Prelude.{codes, if◌then◌else◌}
use Rattle.std.specs.Str.{bytes_eq}
use Rattle.mon_display.specs.Visible.{visible, quoted}

-- an address without the port of SNMP (RFC 3417 section 3.1)
abbrev pub without_port : List ℕ → List ℕ
without_port address =
    if bytes_eq (drop (length address - 4) address) (codes ":161")
    then take (length address - 4) address else address

-- a device by the address of its agent and the label of its settings
abbrev pub device_text : Option (List ℕ) → Option (List ℕ) → List ℕ
device_text None None = []
device_text None (Some label) = visible label
device_text (Some address) None = visible (without_port address)
device_text (Some address) (Some label) = visible (without_port address) ++ codes " ("
    ++ visible label ++ codes ")"

-- an ifAlias after an ifName, unless it is empty
abbrev pub alias_text : List ℕ → List ℕ
alias_text [] = []
alias_text (c ∷ cs) = codes " " ++ quoted (c ∷ cs)

-- an interface by its ifName and its ifAlias (RFC 2863); nothing without an ifName
abbrev pub interface_text : Option (List ℕ) → Option (List ℕ) → List ℕ
interface_text None alias = []
interface_text (Some name) None = visible name
interface_text (Some name) (Some alias) = visible name ++ alias_text alias
