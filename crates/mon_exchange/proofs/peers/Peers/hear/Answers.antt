use Rattle.std.proofs.Common.{◌<◌, ℕ, Option, Some, length, sym, ap, ◌∙◌, arith}
use Rattle.std.specs.Prelude.{◌==◌, if◌then◌else◌}
use Rattle.mon_exchange.specs.Peers.{Peers, incarnation_in, latest, peer_numbers}
use Rattle.mon_exchange.proofs.Slots.{known_now, known_was, same_numbers}
use Rattle.mon_exchange.proofs.peers.Peers.hear.Goals as goal

pub returns-clause-numbers : goal.returns-clause-numbers
returns-clause-numbers c =
    let peers = c.self.inside.peers.items in
    let old = c.index_mut-peer.result.now in
    let lt : c.from.result < length peers = omega (arith, c.from.ensures, c.requires, ap (λ (p : Peers). length p.peers) c.self.view_is) in
    same_numbers peers c.from.result lt old c.index_mut-peer.ensures.value c.latest.result ∙ ap (λ (p : Peers). peer_numbers p.peers) c.self.view_is

pub returns-clause-known : goal.returns-clause-known
returns-clause-known c = λ k.
    let peers = c.self.inside.peers.items in
    let old = c.index_mut-peer.result.now in
    let lt : c.from.result < length peers = omega (arith, c.from.ensures, c.requires, ap (λ (p : Peers). length p.peers) c.self.view_is) in
    known_now peers c.from.result lt old c.index_mut-peer.ensures.value c.latest.result k
    ∙ ap (λ (n : ℕ). if k == c.from.result then Some n else incarnation_in peers k)
    (c.latest.ensures ∙ ap (λ (o : Option ℕ). latest o c.args.incarnation) (sym (known_was peers c.from.result lt old c.index_mut-peer.ensures.value c.latest.result)))
    ∙ (λ j. if k == c.from.ensures j then Some (latest (incarnation_in (c.self.view_is j).peers (c.from.ensures j)) c.args.incarnation) else incarnation_in (c.self.view_is j).peers k)
