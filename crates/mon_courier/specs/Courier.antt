-- A courier: the texts that wait, the one in hand, and how it goes on with it.
use Rattle.std.specs.Prelude.{◌≤◌, ℕ, ◌+◌, ◌-◌, Bool, ◌||◌, ◌&&◌, true, false, List, [], ◌∷◌}
use Rattle.std.specs.Prelude.{length, nat_le, nat_lt, Option, Some, None, if◌then◌else◌}
use Rattle.mon_notify.specs.Mail.{Mail, after_removal}
use Rattle.mon_notify.specs.Mail.{empty as no_mail}
use Rattle.mon_udp.specs.declared.addr.Addr.{Addr}
use Rattle.mon_courier.specs.declared.courier.Line.{Line}
use Rattle.mon_courier.specs.declared.plan.Plan.{Plan}
use Rattle.mon_courier.specs.Exchange.{Parts, empty, filled, restarted}
use Rattle.mon_courier.specs.Plan.{after_delivery, after_failure, after_refusal, first_plan}

-- The texts that wait; the request, and whether it is that of a text in hand, which was taken and
-- is not delivered yet; the connection, while an attempt goes on; when the next attempt is due, and
-- what was counted; and the receiver's address.
pub record State (S : Type 0) : Type 0 where
  pub mail : Mail
  pub parts : Parts
  pub taken : Bool
  pub line : Option (Line S)
  pub plan : Plan
  pub address : Addr

-- a text of at most 4,096 octets
abbrev pub IsShort : List ℕ → Type 0
IsShort text = length text ≤ 4096

-- a courier that no text came to yet
abbrev pub fresh : {S : Type 0} → (host path : List ℕ) → Addr → State S
fresh host path address = record {
  mail = no_mail;
  parts = empty host path;
  taken = false;
  line = None;
  plan = first_plan;
  address = address;
}

-- a courier with these texts that wait
abbrev pub with_mail : {S : Type 0} → Mail → State S → State S
with_mail mail s = record s { mail = mail }

-- a courier with this plan
abbrev pub with_plan : {S : Type 0} → Plan → State S → State S
with_plan plan s = record s { plan = plan }

-- a courier whose request is this far
abbrev pub with_parts : {S : Type 0} → Parts → State S → State S
with_parts parts s = record s { parts = parts }

-- a courier with this connection, or none
abbrev pub with_line : {S : Type 0} → Option (Line S) → State S → State S
with_line line s = record s { line = line }

-- how many texts were not delivered and never will be
abbrev pub all_dropped : {S : Type 0} → State S → ℕ
all_dropped s = s.mail.dropped + s.mail.too_long + s.plan.lost + s.plan.refused

-- a text is in hand or waits
abbrev pub has_text : {S : Type 0} → State S → Bool
has_text s = s.taken || nat_lt 0 (length s.mail.waiting)

-- an attempt may begin now: there is a text for it, and the pause is over
abbrev pub is_due : {S : Type 0} → ℕ → State S → Bool
is_due now s = has_text s && nat_le s.plan.due now

-- when a turn is needed at the latest, by whether an attempt goes on: 50 milliseconds if one does
abbrev pub rest_with : {S : Type 0} → Option (Line S) → ℕ → State S → Option ℕ
rest_with (Some line) now s = Some 50
rest_with None now s = if has_text s then Some (s.plan.due - now) else None

-- in how many milliseconds a turn is needed at the latest, if any is
abbrev pub rest_of : {S : Type 0} → ℕ → State S → Option ℕ
rest_of now s = rest_with s.line now s

-- the oldest of the texts that wait was taken, and the request is its
abbrev pub taken_from : {S : Type 0} → List (List ℕ) → State S → State S
taken_from [] s = s
taken_from (text ∷ rest) s =
    record s { mail = after_removal s.mail; parts = filled text s.parts; taken = true }

-- The request is ready for an attempt: that of the text in hand, or else that of the oldest text,
-- which was taken.
abbrev pub prepared : {S : Type 0} → State S → State S
prepared s =
    if s.taken then record s { parts = restarted s.parts } else taken_from s.mail.waiting s

-- an attempt failed: the text is still in hand
abbrev pub failed : {S : Type 0} → ℕ → State S → State S
failed now s = record s { plan = after_failure now s.plan }

-- the text in hand was delivered
abbrev pub delivered : {S : Type 0} → ℕ → State S → State S
delivered now s = record s { taken = false; plan = after_delivery now s.plan }

-- the text in hand was refused for good
abbrev pub refused : {S : Type 0} → ℕ → State S → State S
refused now s = record s { taken = false; plan = after_refusal now s.plan }
