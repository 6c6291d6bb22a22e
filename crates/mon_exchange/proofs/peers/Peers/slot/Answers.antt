use Rattle.std.proofs.Common.{ap, ◌∙◌}
use Rattle.std.specs.Prelude.{◌==◌}
use Rattle.mon_exchange.specs.declared.peers.Peer.{Peer}
use Rattle.mon_exchange.specs.Peers.{Peers, peer_slot}
use Rattle.mon_exchange.proofs.Slots.{position_mapped}
use Rattle.mon_exchange.proofs.peers.Peers.slot.Goals as goal

pub returns-in-Some-clause-slot : goal.returns-in-Some-clause-slot
returns-in-Some-clause-slot c =
    c.in-Some.ensures ∙ position_mapped (λ (p : Peer). p.number) (λ n. n == c.args.station) c.as_slice.result.now
    ∙ ap (λ l. peer_slot l c.args.station) (c.as_slice.ensures.value ∙ ap (λ (p : Peers). p.peers) c.self.view_is)

pub returns-in-None-clause-slot : goal.returns-in-None-clause-slot
returns-in-None-clause-slot c =
    c.in-None.ensures ∙ position_mapped (λ (p : Peer). p.number) (λ n. n == c.args.station) c.as_slice.result.now
    ∙ ap (λ l. peer_slot l c.args.station) (c.as_slice.ensures.value ∙ ap (λ (p : Peers). p.peers) c.self.view_is)
