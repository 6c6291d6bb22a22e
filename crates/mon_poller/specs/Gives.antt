-- What a call returned against what it should give.
use Rattle.std.specs.Prelude.{◌≡◌, Result, Ok, Err, Option, Some, None, Bool, true, false, IsOk}
use Rattle.mon_poller.specs.declared.fault.PollFault.{PollFault}
use Rattle.mon_poller.specs.declared.fault.PollFault.TheVariants as start
use Rattle.mon_poller.specs.declared.fault.ResponseFault.{ResponseFault}
use Rattle.mon_poller.specs.declared.fault.ResponseFault.TheVariants.{
  OutOfMemory,
  BadMessage,
  Stray,
  WrongSource,
  WrongCommunity,
  AgentError,
  WrongNames,
  BadStamp,
  OtherEngine,
}

-- what is there, else this refusal
abbrev pub or_refuse : {A E : Type 0} → E → Option A → Result A E
or_refuse why (Some x) = Ok x
or_refuse why None = Err why

-- go on where the test holds, else this refusal
abbrev pub need : {E : Type 0} → E → Bool → Result (Unit {0}) E
need why true = Ok tt
need why false = Err why

-- A call that refused did so for the reason that is given, unless memory ran out.
abbrev pub Fails : {Y : Type 0} → ResponseFault → Result Y ResponseFault → Type 0
Fails OutOfMemory read = Unit {0}
Fails BadMessage read = read ≡ Err BadMessage
Fails Stray read = read ≡ Err Stray
Fails WrongSource read = read ≡ Err WrongSource
Fails WrongCommunity read = read ≡ Err WrongCommunity
Fails (AgentError status index) read = read ≡ Err (AgentError status index)
Fails WrongNames read = read ≡ Err WrongNames
Fails BadStamp read = read ≡ Err BadStamp
Fails OtherEngine read = read ≡ Err OtherEngine

-- What a call returned, seen by view, is what is given, unless memory ran out.
abbrev pub Gives : {X Y : Type 0} → (X → Y) → Result X ResponseFault → Result Y ResponseFault
    → Type 0
Gives view (Ok x) read = read ≡ Ok (view x)
Gives view (Err e) read = Fails e read

-- A start was refused for this reason. Memory ran out only if there is no such reason.
abbrev pub StartFails : {Y : Type 0} → PollFault → Result Y PollFault → Type 0
StartFails start.OutOfMemory judged = IsOk judged
StartFails start.UnknownTarget judged = judged ≡ Err start.UnknownTarget
StartFails start.TooManyOpen judged = judged ≡ Err start.TooManyOpen
StartFails start.NoMoreIds judged = judged ≡ Err start.NoMoreIds
