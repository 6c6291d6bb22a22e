-- What a response that is lent shows.
use Rattle.std.specs.Prelude.{ℕ, List}
use Rattle.mon_pdu.specs.declared.message.Binding.{Binding}
use Rattle.mon_app.specs.declared.response.Response.{Response}
use Rattle.mon_board.specs.Instance.{named}
use Rattle.mon_poller.specs.Lent.{lent_stamp}
use Rattle.mon_poller.specs.Stamp.{Stamp}
use Rattle.mon_app.specs.Offer.{Offer}

-- its stamp
abbrev pub stamp_in : Response → Stamp
stamp_in r = lent_stamp r.stamp

-- its stamp, and its other bindings
abbrev pub response_in : Response → Stamp × List Binding
response_in r = (stamp_in r, r.bindings.now)

-- a sample of the object of this name at its engine
abbrev pub offered_by : Response → List ℕ → ℕ → Offer
offered_by r name sample = record { instance = named r.stamp.engine.now name; sample = sample }
