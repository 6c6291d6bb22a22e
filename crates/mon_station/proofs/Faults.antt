-- Faults of the parts, as the station's.
use Rattle.std.proofs.Common.{◌≡◌, ℕ, Some, Result, Ok, Err, refl, sym, ap, subst, ◌∙◌}
use Rattle.std.proofs.Common.{◌+◌, Bool, true, false, List, length}
use Rattle.std.specs.Prelude.{nat_le, ◌==◌, if◌then◌else◌}
use Rattle.std.specs.FinMap as map
use Rattle.mon_board.specs.Instance.{instances_of}
use Rattle.mon_board.specs.Watch.{Watch}
use Rattle.mon_poller.specs.declared.target.Target.{Target}
use Rattle.mon_saved.specs.declared.fault.ImageFault.{ImageFault}
use Rattle.mon_saved.specs.declared.fault.ImageFault.TheVariants as image
use Rattle.mon_saved.specs.declared.image.Image.{Image}
use Rattle.mon_saved.specs.Image.{SpellsImage}
use Rattle.mon_saved.specs.Reading as saved
use Rattle.mon_saved.specs.Reading.{image_at}
use Rattle.mon_station.specs.Saved.{IsFaultOfBody}
use Rattle.mon_poller.specs.declared.fault.PollFault.{PollFault}
use Rattle.mon_poller.specs.declared.fault.PollFault.TheVariants as poll
use Rattle.mon_poller.specs.declared.fault.ResponseFault.{ResponseFault}
use Rattle.mon_poller.specs.declared.fault.ResponseFault.TheVariants as response
use Rattle.mon_poller.specs.declared.poller.Offered.{Offered}
use Rattle.mon_poller.specs.Gives.{Fails, StartFails}
use Rattle.mon_poller.specs.Polls.{Polls}
use Rattle.mon_poller.specs.Verdict.{ends, start_verdict}
use Rattle.mon_station.specs.declared.fault.StationFault.{StationFault}
use Rattle.mon_station.specs.declared.fault.StationFault.TheVariants as station
use Rattle.mon_station.specs.Fault.{image_refusal, poll_refusal, response_refusal}
use Rattle.mon_station.specs.ReadEvent.{ReadEvent, StartPoll}
use Rattle.mon_station.specs.Verdict.{Setting, IsLawfulFault, ends_poll, fault_in, verdict}

-- a poll that was not started
pub start_lawful : (w : Setting) (p : Polls) (t : ℕ) (f : PollFault) → StartFails f (start_verdict w.targets p t) → IsLawfulFault w p (StartPoll t) (poll_refusal f)
start_lawful w p t poll.OutOfMemory h = tt
start_lawful w p t poll.UnknownTarget h = ap (fault_in station.Poll) h
start_lawful w p t poll.TooManyOpen h = ap (fault_in station.Poll) h
start_lawful w p t poll.NoMoreIds h = ap (fault_in station.Poll) h

-- a response that was refused
module _ (w : Setting) (p : Polls) where
  pub response_lawful : (e : ReadEvent) (v : Result Offered ResponseFault) → verdict w p e ≡ fault_in station.Response v → (f : ResponseFault) → Fails f v → IsLawfulFault w p e (response_refusal f)
  response_lawful e v is response.OutOfMemory h = tt
  response_lawful e v is response.BadMessage h = is ∙ ap (fault_in station.Response) h
  response_lawful e v is response.Stray h = is ∙ ap (fault_in station.Response) h
  response_lawful e v is response.WrongSource h = is ∙ ap (fault_in station.Response) h
  response_lawful e v is response.WrongCommunity h = is ∙ ap (fault_in station.Response) h
  response_lawful e v is (response.AgentError a b) h = is ∙ ap (fault_in station.Response) h
  response_lawful e v is response.WrongNames h = is ∙ ap (fault_in station.Response) h
  response_lawful e v is response.BadStamp h = is ∙ ap (fault_in station.Response) h
  response_lawful e v is response.OtherEngine h = is ∙ ap (fault_in station.Response) h

pub ends_as : (f : ResponseFault) → ends_poll (Some (response_refusal f)) ≡ (let r : Result Offered ResponseFault = Err f in ends r)
ends_as response.OutOfMemory = refl
ends_as response.BadMessage = refl
ends_as response.Stray = refl
ends_as response.WrongSource = refl
ends_as response.WrongCommunity = refl
ends_as (response.AgentError a b) = refl
ends_as response.WrongNames = refl
ends_as response.BadStamp = refl
ends_as response.OtherEngine = refl

-- a refusal that is no lack of memory is none as the station's
pub response_memory : (f : ResponseFault) → response_refusal f ≡ station.OutOfMemory → f ≡ response.OutOfMemory
response_memory response.OutOfMemory is = refl
response_memory response.BadMessage is = absurd cc
response_memory response.Stray is = absurd cc
response_memory response.WrongSource is = absurd cc
response_memory response.WrongCommunity is = absurd cc
response_memory (response.AgentError a b) is = absurd cc
response_memory response.WrongNames is = absurd cc
response_memory response.BadStamp is = absurd cc
response_memory response.OtherEngine is = absurd cc

-- a poll starts under the next request-id
pub started_id : (targets : List Target) (p : Polls) (t id : ℕ) → start_verdict targets p t ≡ Ok id → id ≡ p.started + 1
started_id targets p t id = at (nat_le (length targets) t) (nat_le 64 (map.len p.open_polls)) (p.started == 2147483647)
  where
    at : (a b c : Bool) → (if a then Err poll.UnknownTarget else (if b then Err poll.TooManyOpen else (if c then Err poll.NoMoreIds else Ok (p.started + 1)))) ≡ Ok id → id ≡ p.started + 1
    at true b c h = absurd cc
    at false true c h = absurd cc
    at false false true h = absurd cc
    at false false false h = cc

-- octets that are no image of the watch's instances
pub no_image : (watch : Watch) (octets : List ℕ) (f : ImageFault) (g : StationFault) → g ≡ image_refusal f → saved.Fails f (image_at (instances_of watch.instances) octets)
    → ((m : Image) → SpellsImage octets (instances_of watch.instances) m → f ≡ image.OutOfMemory) → IsFaultOfBody watch (Some octets) g
no_image watch octets f g is h only = subst (IsFaultOfBody watch (Some octets)) (sym is) (at f h only)
  where
    at : (f : ImageFault) → saved.Fails f (image_at (instances_of watch.instances) octets) → ((m : Image) → SpellsImage octets (instances_of watch.instances) m → f ≡ image.OutOfMemory) → IsFaultOfBody watch (Some octets) (image_refusal f)
    at image.OutOfMemory h only = tt
    at image.Truncated h only = (octets, refl, h, λ m is. let no : image.Truncated ≡ image.OutOfMemory = only m is in cc)
    at image.BadVersion h only = (octets, refl, h, λ m is. let no : image.BadVersion ≡ image.OutOfMemory = only m is in cc)
    at image.OtherWatch h only = (octets, refl, h, λ m is. let no : image.OtherWatch ≡ image.OutOfMemory = only m is in cc)
    at image.BadImage h only = (octets, refl, h, λ m is. let no : image.BadImage ≡ image.OutOfMemory = only m is in cc)
