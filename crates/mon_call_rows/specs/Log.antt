-- What a wire in memory wrote down.
use Rattle.std.specs.Prelude.{List, map, Option, Some}
use Rattle.mon_client.specs.AtWire.{AtWire, Sent, Heard, Other, Quiet}
use Rattle.mon_call_rows.specs.declared.event.Event.{Event}
use Rattle.mon_call_rows.specs.declared.event.Event.TheVariants as events

-- an event at a wire
abbrev pub at_wire : Event → AtWire
at_wire (events.Sent octets) = Sent octets.items
at_wire (events.Heard octets) = Heard octets.items
at_wire events.Other = Other
at_wire events.Quiet = Quiet
