-- The machines that a text lists, one a line: NAME ADDRESS.
use Rattle.std.specs.Prelude.{ℕ, ◌+◌, ◌==◌, ◌||◌, ◌&&◌, nat_lt, nat_le, Bool, true, false, List, []}
use Rattle.std.specs.Prelude.{◌∷◌, ◌++◌, Option, Some, None, Result, Ok, Err, drop, length}
use Rattle.std.specs.Prelude.{string_bytes, if◌then◌else◌}
use Rattle.std.specs.Char.{is_ascii_alphanumeric, is_ascii_whitespace}
use Rattle.std.specs.List.{after_first, before_first, list_all, position_or_len, prefix_len}
use Rattle.std.specs.Net.Reader.{read_ipv4, whole_value}
use Rattle.std.specs.Str.{bytes_eq}
use Rattle.std.specs.Str.Lines.{lines}
use Rattle.mon_placing.specs.declared.fault.MachinesFault.{MachinesFault}
use Rattle.mon_placing.specs.declared.fault.MachinesFault.TheVariants.{
  Malformed,
  NoMachine,
  RepeatedAddress,
  RepeatedName,
  TooFew,
  TooMany,
}
use Rattle.mon_placing.specs.declared.machines.Machine.{Machine}

-- a machine: its name, and its IPv4 address in octets
pub record Entry : Type 0 where
  pub name : List ℕ
  pub octets : List ℕ

-- what a machine of the program is called, and where it is
abbrev pub listed : Machine → Entry
listed m = record { name = string_bytes m.name; octets = m.octets }

-- an octet may appear in a name: a letter, a digit, `-` or `.`
abbrev pub is_of_names : ℕ → Bool
is_of_names c = is_ascii_alphanumeric c || ((c == 45) || (c == 46))

-- the first octet is a letter or a digit
abbrev pub begins_well : List ℕ → Bool
begins_well [] = false
begins_well (c ∷ cs) = is_ascii_alphanumeric c

-- a name begins with a letter or a digit, and each of its octets may appear in one
abbrev pub is_name : List ℕ → Bool
is_name text = begins_well text && list_all is_of_names text

-- the IPv4 address that a text writes: four decimal numbers up to 255 without leading zeros
abbrev pub octets_of : List ℕ → Option (List ℕ)
octets_of text = whole_value (read_ipv4 text)

-- a text without the white space at its start
abbrev pub trimmed : List ℕ → List ℕ
trimmed text = drop (prefix_len is_ascii_whitespace text) text

-- a name with the address after it, if there is one
abbrev pub named : List ℕ → Option (List ℕ) → Option (List ℕ × List ℕ)
named name None = None
named name (Some octets) = Some (name, octets)

-- the name and the address, if the first is a name
abbrev pub entry_by : Bool → List ℕ → List ℕ → Option (List ℕ × List ℕ)
entry_by false name address = None
entry_by true name address = named name (octets_of address)

-- an octet is a space
abbrev pub is_space : ℕ → Bool
is_space c = c == 32

-- a line has a space
abbrev pub has_space : List ℕ → Bool
has_space line = nat_lt (position_or_len is_space line) (length line)

-- a line is NAME ADDRESS: what is before its first space, and what is after that and further white
-- space
abbrev pub entry_in : List ℕ → Option (List ℕ × List ℕ)
entry_in line = entry_by (has_space line && is_name (before_first is_space line))
    (before_first is_space line)
    (trimmed (after_first is_space line))

-- a line that says nothing of a machine: it is empty or a comment
abbrev pub is_passed : List ℕ → Bool
is_passed [] = true
is_passed (c ∷ rest) = c == 35

-- a machine has this name
abbrev pub has_name : List ℕ → List Entry → Bool
has_name name [] = false
has_name name (m ∷ ms) = bytes_eq m.name name || has_name name ms

-- a machine has this address
abbrev pub has_address : List ℕ → List Entry → Bool
has_address octets [] = false
has_address octets (m ∷ ms) = bytes_eq m.octets octets || has_address octets ms

-- why a machine on this line may not be added, the first reason of these; or it may
abbrev pub unrepeated_by : (name address full : Bool) → ℕ → Result Unit MachinesFault
unrepeated_by true address full number = Err (RepeatedName number)
unrepeated_by false true full number = Err (RepeatedAddress number)
unrepeated_by false false true number = Err (TooMany number)
unrepeated_by false false false number = Ok tt

-- a machine on this line may be added to those above: its name and address are new, and there are
-- fewer than 1,024
abbrev pub unrepeated : ℕ → List Entry → (name octets : List ℕ) → Result Unit MachinesFault
unrepeated number known name octets =
    unrepeated_by (has_name name known) (has_address octets known) (nat_le 1024 (length known))
    number

-- a machine after those above, if it may be added
abbrev pub joined : Result Unit MachinesFault → List Entry → (name octets : List ℕ)
    → Result (List Entry) MachinesFault
joined (Err fault) known name octets = Err fault
joined (Ok done) known name octets = Ok (known ++ (record { name = name; octets = octets }) ∷ [])

-- the machines up to a line that must be one
abbrev pub with_entry : ℕ → List Entry → Option (List ℕ × List ℕ)
    → Result (List Entry) MachinesFault
with_entry number known None = Err (Malformed number)
with_entry number known (Some entry) = joined (unrepeated number known entry.0 entry.1) known
    entry.0 entry.1

-- the machines up to a line
abbrev pub read_by : Bool → ℕ → List Entry → List ℕ → Result (List Entry) MachinesFault
read_by true number known line = Ok known
read_by false number known line = with_entry number known (entry_in line)

-- the machines up to the line of this number, by those above it
abbrev pub read_line : ℕ → List Entry → List ℕ → Result (List Entry) MachinesFault
read_line number known line = read_by (is_passed line) number known line

-- a step, and another one by what it gave; the first fault ends both
abbrev pub and_then : {A : Type 0} → Result A MachinesFault →
    (A → Result (List Entry) MachinesFault) → Result (List Entry) MachinesFault
and_then (Ok value) next = next value
and_then (Err fault) next = Err fault

-- the machines on lines from this number on, after those above; or the first line at fault
abbrev pub read_from : ℕ → List Entry → List (List ℕ) → Result (List Entry) MachinesFault
read_from number known [] = Ok known
read_from number known (line ∷ rest) = and_then (read_line number known line)
    (λ more. read_from (number + 1) more rest)

-- there is a machine, and there are as many as a group has stations
abbrev pub enough : ℕ → List Entry → Result (List Entry) MachinesFault
enough stations [] = Err NoMachine
enough stations (m ∷ ms) = if nat_lt (length (m ∷ ms)) stations then Err (TooFew (length (m ∷ ms)))
    else Ok (m ∷ ms)

-- The machines that a text lists, enough for groups of this many stations; or the first line
-- at fault, or that they are too few.
unfoldable pub machines_in : List ℕ → ℕ → Result (List Entry) MachinesFault
machines_in text stations = and_then (read_from 1 [] (lines text))
    (λ machines. enough stations machines)
