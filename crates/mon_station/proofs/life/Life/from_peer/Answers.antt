use Rattle.std.proofs.Common.{Ok, Some, Result, sym, subst, ◌∙◌}
use Rattle.mon_exchange.specs.declared.fault.ExchangeFault.{ExchangeFault}
use Rattle.mon_station.specs.declared.fault.StationFault.{StationFault}
use Rattle.mon_station.specs.ReadEvent.{FromPeer, Said, SaysAs}
use Rattle.mon_station.specs.State.{IsHandled, state_of}
use Rattle.mon_station.specs.Told.{IsAnswered}
use Rattle.mon_station.proofs.Claimed.{said_as}
use Rattle.mon_station.proofs.Said.{if_err_always, if_ok_always, reads_none, says_claim, unread}
use Rattle.mon_station.proofs.life.Life.from_peer.Goals as goal

pub returns-in-Ok-clause-answered : goal.returns-in-Ok-clause-answered
returns-in-Ok-clause-answered c = λ r says.
    let one = says_claim c.args.self.now.board.watch c.args.octets.now c.in-Ok.claim c.in-Ok.ensures.found c.in-Ok.ensures.only r says in
    subst (λ (x : Result Said ExchangeFault). IsAnswered (state_of c.args.self.now) (state_of c.take_claim.new.self) (FromPeer x) c.take_claim.result) one.2 (c.take_claim.ensures.answered one.0 one.1)

pub returns-in-Ok-clause-read : goal.returns-in-Ok-clause-read
returns-in-Ok-clause-read c =
    let n = c.take_claim.ensures.numbered in
    if_ok_always c.take_claim.result ((r : Result Said ExchangeFault) × SaysAs c.args.self.now.board.watch c.args.octets.now r) (Ok (said_as c.in-Ok.claim n.0), (c.in-Ok.ensures.found, n.1))

pub returns-in-Ok-clause-read_err : goal.returns-in-Ok-clause-read_err
returns-in-Ok-clause-read_err c =
    let n = c.take_claim.ensures.numbered in
    if_err_always c.take_claim.result _ (λ f other. (Ok (said_as c.in-Ok.claim n.0), (c.in-Ok.ensures.found, n.1)))

pub returns-in-Err-clause-answered : goal.returns-in-Err-clause-answered
returns-in-Err-clause-answered c = λ r says.
    let s = state_of c.args.self.now in
    subst (λ (x : StationFault). IsHandled (FromPeer r) (Some x) s s) (sym c.from.ensures)
    (unread s c.settled.ensures.settled c.args.octets.now c.in-Err.fault c.in-Err.ensures.fault c.in-Err.ensures.only r says)

pub returns-in-Err-clause-read_err : goal.returns-in-Err-clause-read_err
returns-in-Err-clause-read_err c = λ other.
    reads_none (state_of c.args.self.now) c.settled.ensures.settled c.args.octets.now c.in-Err.fault c.in-Err.ensures.fault c.in-Err.ensures.only (λ is. other (c.from.ensures ∙ is))
