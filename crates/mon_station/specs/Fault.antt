-- The faults of a station.
use Rattle.std.specs.Prelude.{ℕ, List, ◌++◌, codes, decimal}
use Rattle.mon_disk.specs.Fault as disk
use Rattle.mon_disk.specs.declared.fault.KeeperFault.{KeeperFault}
use Rattle.mon_disk.specs.declared.fault.KeeperFault.TheVariants as keeper
use Rattle.mon_exchange.specs.Fault as exchanging
use Rattle.mon_exchange.specs.declared.fault.ExchangeFault.{ExchangeFault}
use Rattle.mon_exchange.specs.declared.fault.ExchangeFault.TheVariants as exchange
use Rattle.mon_poller.specs.Fault.{poll_name, poll_number, response_name, response_number}
use Rattle.mon_poller.specs.declared.fault.PollFault.{PollFault}
use Rattle.mon_poller.specs.declared.fault.PollFault.TheVariants as poll
use Rattle.mon_poller.specs.declared.fault.ResponseFault.{ResponseFault}
use Rattle.mon_poller.specs.declared.fault.ResponseFault.TheVariants as response
use Rattle.mon_saved.specs.Fault as saved
use Rattle.mon_saved.specs.declared.fault.ImageFault.{ImageFault}
use Rattle.mon_saved.specs.declared.fault.ImageFault.TheVariants as image
use Rattle.mon_station.specs.declared.fault.StationFault.{StationFault}
use Rattle.mon_station.specs.declared.fault.StationFault.TheVariants.{OutOfMemory, Poll, Response}
use Rattle.mon_station.specs.declared.fault.StationFault.TheVariants.{Exchange, Keeper, Image}
use Rattle.mon_station.specs.declared.fault.StationFault.TheVariants.{NoMoreIncarnations}

-- the number of a fault
abbrev pub number_of : StationFault → ℕ
number_of OutOfMemory = 1
number_of (Poll f) = 2
number_of (Response f) = 3
number_of (Exchange f) = 4
number_of (Keeper f) = 5
number_of (Image f) = 6
number_of NoMoreIncarnations = 7

-- the name of a fault
abbrev pub name_of : StationFault → List ℕ
name_of OutOfMemory = codes "OutOfMemory"
name_of (Poll f) = codes "Poll"
name_of (Response f) = codes "Response"
name_of (Exchange f) = codes "Exchange"
name_of (Keeper f) = codes "Keeper"
name_of (Image f) = codes "Image"
name_of NoMoreIncarnations = codes "NoMoreIncarnations"

-- a fault as a line prints it: the crate, and the fault's number and name there
pub record Told : Type 0 where
  pub part : List ℕ
  pub number : ℕ
  pub name : List ℕ

-- the line of such a fault, without what is around it: CRATE NUMBER NAME
abbrev pub told_text : Told → List ℕ
told_text fault = fault.part ++ codes " " ++ decimal fault.number ++ codes " " ++ fault.name

-- the innermost fault: the part's, where a part refused
abbrev pub innermost_of : StationFault → Told
innermost_of (Poll f) = record {
  part = codes "mon_poller";
  number = poll_number f;
  name = poll_name
      f;
}
innermost_of (Response f) = record {
  part = codes "mon_poller";
  number = response_number f;
  name =
      response_name f;
}
innermost_of (Exchange f) = record {
  part = codes "mon_exchange";
  number = exchanging.number_of f;
  name = exchanging.name_of f;
}
innermost_of (Keeper f) = record {
  part = codes "mon_disk";
  number = disk.number_of f;
  name =
      disk.name_of f;
}
innermost_of (Image f) = record {
  part = codes "mon_saved";
  number = saved.number_of f;
  name =
      saved.name_of f;
}
innermost_of f = record { part = codes "mon_station"; number = number_of f; name = name_of f }

-- a fault of the poller as the station's: its lack of memory is the station's own
abbrev pub poll_refusal : PollFault → StationFault
poll_refusal poll.OutOfMemory = OutOfMemory
poll_refusal f = Poll f

-- a fault of a response, the same way
abbrev pub response_refusal : ResponseFault → StationFault
response_refusal response.OutOfMemory = OutOfMemory
response_refusal f = Response f

-- a fault of the exchange
abbrev pub exchange_refusal : ExchangeFault → StationFault
exchange_refusal exchange.OutOfMemory = OutOfMemory
exchange_refusal f = Exchange f

-- a fault of the keeper
abbrev pub keeper_refusal : KeeperFault → StationFault
keeper_refusal keeper.OutOfMemory = OutOfMemory
keeper_refusal f = Keeper f

-- a fault of an image
abbrev pub image_refusal : ImageFault → StationFault
image_refusal image.OutOfMemory = OutOfMemory
image_refusal f = Image f
