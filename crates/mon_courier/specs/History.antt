-- What becomes of the texts that are put into a courier.
use Rattle.std.specs.Prelude.{◌≡◌, ◌≤◌, ◌<◌, ◌+◌, ◌-◌, ◌^◌, ℕ, Bool, true, false, List, [], ◌∷◌}
use Rattle.std.specs.Prelude.{◌++◌, length, map, min, Option}
use Rattle.mon_http_client.specs.Request.{post_text}
use Rattle.mon_notify.specs.Mail.{Mail, after_put, most_octets}
use Rattle.mon_udp.specs.declared.addr.Addr.{Addr}
use Rattle.mon_courier.specs.Courier.{State, fresh, with_mail, with_plan}
use Rattle.mon_courier.specs.Exchange.{Call}
use Rattle.mon_courier.specs.Plan.{after_loss}
use Rattle.mon_courier.specs.Turn.{Connecting, IsTurn}
use Rattle.mon_courier.specs.declared.news.News.{News}

-- A courier's history: the texts that came and were not too long, how many were too long, how many
-- could not be made, and its state. Its steps are those of the methods of `CourierBy`.
pub data History {S : Type 0} (Connected : Connecting S) (Wrote Read : Call S)
    : (came : List (List ℕ)) → (long lost : ℕ) → State S → Type 0 where
  began : (host path : List ℕ) (address : Addr)
      → History Connected Wrote Read [] 0 0 (fresh host path address)
  put : (came : List (List ℕ)) (long lost : ℕ) (s : State S) (text : List ℕ)
      → History Connected Wrote Read came long lost s → length text ≤ most_octets
      → History Connected Wrote Read (came ++ text ∷ []) long lost
      (with_mail (after_put text s.mail) s)
  put_long : (came : List (List ℕ)) (long lost : ℕ) (s : State S) (text : List ℕ)
      → History Connected Wrote Read came long lost s → most_octets < length text
      → History Connected Wrote Read came (long + 1) lost (with_mail (after_put text s.mail) s)
  lose : (came : List (List ℕ)) (long lost : ℕ) (s : State S)
      → History Connected Wrote Read came long lost s
      → History Connected Wrote Read came long (lost + 1) (with_plan (after_loss s.plan) s)
  turn : (came : List (List ℕ)) (long lost : ℕ) (now : ℕ) (old new : State S) (said : Option News)
      → History Connected Wrote Read came long lost old
      → IsTurn Connected Wrote Read now old new said
      → History Connected Wrote Read came long lost new

-- what became of a text that does not wait any more
pub data Fate : Type 0 where
  WasDropped WasRefused WasDelivered IsInHand : Fate

-- how many were dropped, since more came
abbrev pub dropped_of : List (List ℕ × Fate) → ℕ
dropped_of [] = 0
dropped_of ((text, WasDropped) ∷ gone) = dropped_of gone + 1
dropped_of ((text, WasRefused) ∷ gone) = dropped_of gone
dropped_of ((text, WasDelivered) ∷ gone) = dropped_of gone
dropped_of ((text, IsInHand) ∷ gone) = dropped_of gone

-- how many the receiver refused
abbrev pub refused_of : List (List ℕ × Fate) → ℕ
refused_of [] = 0
refused_of ((text, WasDropped) ∷ gone) = refused_of gone
refused_of ((text, WasRefused) ∷ gone) = refused_of gone + 1
refused_of ((text, WasDelivered) ∷ gone) = refused_of gone
refused_of ((text, IsInHand) ∷ gone) = refused_of gone

-- the texts that are in hand
abbrev pub in_hand_of : List (List ℕ × Fate) → List (List ℕ)
in_hand_of [] = []
in_hand_of ((text, WasDropped) ∷ gone) = in_hand_of gone
in_hand_of ((text, WasRefused) ∷ gone) = in_hand_of gone
in_hand_of ((text, WasDelivered) ∷ gone) = in_hand_of gone
in_hand_of ((text, IsInHand) ∷ gone) = text ∷ in_hand_of gone

-- one text is in hand, and the request is its; or none is
abbrev pub IsInHandBy : Bool → (host path request : List ℕ) → List (List ℕ) → Type 0
IsInHandBy true host path request held =
    (text : List ℕ) × (held ≡ text ∷ []) × (request ≡ post_text host path text)
IsInHandBy false host path request held = held ≡ []

-- Each text that came was delivered, refused or dropped, is in hand or waits, and so in the order
-- in which they came: those that wait came last. At most one is in hand. What was refused, dropped,
-- too long or not made is counted, up to the greatest count.
pub record IsKeptBy (came : List (List ℕ)) (long lost : ℕ) (mail : Mail) (taken : Bool)
    (host path request : List ℕ) (lost_count refused_count : ℕ) : Type 0 where
  pub gone : List (List ℕ × Fate)
  pub came_is : came ≡ map (λ g. g.0) gone ++ mail.waiting
  pub in_hand : IsInHandBy taken host path request (in_hand_of gone)
  pub dropped_is : mail.dropped ≡ min (dropped_of gone) (2 ^ 64 - 1)
  pub refused_is : refused_count ≡ min (refused_of gone) (2 ^ 64 - 1)
  pub long_is : mail.too_long ≡ min long (2 ^ 64 - 1)
  pub lost_is : lost_count ≡ min lost (2 ^ 64 - 1)

-- what became of each text is as `IsKeptBy` says of a courier's state
abbrev pub IsKept : {S : Type 0} → (came : List (List ℕ)) → (long lost : ℕ) → State S → Type 0
IsKept came long lost s = IsKeptBy came long lost s.mail s.taken s.parts.host s.parts.path
    s.parts.request s.plan.lost s.plan.refused
