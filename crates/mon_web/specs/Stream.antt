-- What goes over a client's stream in a turn, and what the connection then holds.
use Rattle.std.specs.Prelude.{◌≡◌, ◌≤◌, ◌-◌, ℕ, zero, suc, List, length, take, Result, Ok, Err}
use Rattle.std.specs.declared.io.Error.{Error}
use Rattle.mon_http.specs.Conversation.{Conversation, with_octets, with_sent}

-- what is offered to the stream in a turn: the first of what is pending, at most 65,536 octets
abbrev pub part_of : List ℕ → List ℕ
part_of unsent = take 65536 unsent

-- the part of the buffer that is read into: at most what the connection has capacity for
abbrev pub read_into : Conversation → List ℕ → List ℕ
read_into c buffer = take (8192 - length c.unread) buffer

-- After the stream took n octets, just these are not pending any more. After an error all still
-- are.
abbrev pub IsSent : Result ℕ Error → Conversation → Conversation → Type 0
IsSent (Ok n) old new = (n ≤ length (part_of old.unsent)) × (new ≡ with_sent n old)
IsSent (Err error) old new = new ≡ old

-- After the stream gave n octets, just these came. At the stream's end and after an error none did.
abbrev pub IsReceived : Result ℕ Error → List ℕ → Conversation → Conversation → Type 0
IsReceived (Ok zero) buffer old new = new ≡ old
IsReceived (Ok (suc n)) buffer old new =
    (suc n ≤ length (read_into old buffer)) × (new ≡ with_octets (take (suc n) buffer) old)
IsReceived (Err error) buffer old new = new ≡ old
