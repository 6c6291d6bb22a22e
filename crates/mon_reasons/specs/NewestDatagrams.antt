-- The newest datagrams of targets, and the messages in them.
use Rattle.std.specs.Prelude.{ℕ, zero, suc, ◌-◌, List, [], ◌∷◌, if◌then◌else◌, is_some, not, filter}
use Rattle.std.specs.Prelude.{Option, Some, None, Result, Ok, Err}
use Rattle.std.specs.Option.{option_and_then}
use Rattle.mon_pdu.specs.declared.fault.PduFault.{PduFault}
use Rattle.mon_pdu.specs.declared.message.Message.{Message}
use Rattle.mon_pdu.specs.Grammar.{bindings_of}
use Rattle.mon_pdu.specs.Reading.{message_at}
use Rattle.mon_udp.specs.Addr.{same_addr}
use Rattle.mon_udp.specs.declared.addr.Addr.{Addr}
use Rattle.mon_reasons.specs.Reason.{other_than, value_under}
use Rattle.mon_reasons.specs.declared.newest_datagrams.Datagram.{Datagram}

-- ---- which datagrams are kept
-- a datagram before others if at least one may be kept, else only the others
abbrev pub if_any : ℕ → Datagram → List Datagram → List Datagram
if_any zero d ds = ds
if_any (suc n) d ds = d ∷ ds

-- of these datagrams all that come from another address than this one, and the first N of this one:
-- its newest, where the newest are first
abbrev pub newest_of : Addr → ℕ → List Datagram → List Datagram
newest_of from n [] = []
newest_of from n (d ∷ ds) = if same_addr d.from from then if_any n d (newest_of from (n - 1) ds)
    else d ∷ newest_of from n ds

-- the datagrams from an address, in their order
abbrev pub datagrams_of : Addr → List Datagram → List Datagram
datagrams_of from ds = filter (λ d. same_addr d.from from) ds

-- the datagrams from other addresses than this one, in their order
abbrev pub other_datagrams : Addr → List Datagram → List Datagram
other_datagrams from ds = filter (λ d. not (same_addr d.from from)) ds

-- ---- the messages in them
-- what was read, if it was not refused
abbrev pub accepted : {A : Type 0} → Result A PduFault → Option A
accepted (Ok x) = Some x
accepted (Err e) = None

-- the message that octets begin with, if they begin with one
abbrev pub reads_as : List ℕ → Option Message
reads_as octets = accepted (message_at octets)

-- a message, if it has a value of this name
abbrev pub if_bound : List ℕ → Message → Option Message
if_bound name m = if is_some (value_under name (bindings_of m.body)) then Some m else None

-- the message of a datagram from this address, if it has a value of this name
abbrev pub message_in : Addr → List ℕ → Datagram → Option Message
message_in from name d = if same_addr d.from from then option_and_then (if_bound name)
    (reads_as d.octets) else None

-- the first of two that is there
abbrev pub first_of : {A : Type 0} → Option A → Option A → Option A
first_of (Some x) other = Some x
first_of None other = other

-- the first message from this address that has a value of this name: of datagrams with the newest
-- first, the newest one
abbrev pub message_with : Addr → List ℕ → List Datagram → Option Message
message_with from name [] = None
message_with from name (d ∷ ds) = first_of (message_in from name d) (message_with from name ds)

-- the engine id in the message of a datagram from this address, if it is another than this
abbrev pub other_engine_in : Addr → List ℕ → Datagram → Option (List ℕ)
other_engine_in from engine d = if same_addr d.from from then option_and_then
    (λ m. other_than engine (bindings_of m.body)) (reads_as d.octets) else None

-- the first engine id from this address that is another than this: of datagrams with the newest
-- first, the newest one
abbrev pub other_engine : Addr → List ℕ → List Datagram → Option (List ℕ)
other_engine from engine [] = None
other_engine from engine (d ∷ ds) = first_of (other_engine_in from engine d)
    (other_engine from engine ds)
