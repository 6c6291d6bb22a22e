use Rattle.std.proofs.Common.{◌≡◌, true, false, map, Err, ap, sym, ◌∙◌, inr, rules}
use Rattle.mon_settings.specs.Station.{are_peer_numbers}
use Rattle.mon_settings.specs.declared.station_tables.PeerRow.{PeerRow}
use Rattle.mon_settings.proofs.PeerLists.{same_test, numbers_refused, peers_accepted}
use Rattle.mon_settings.proofs.peers.checked_peers.Goals as goal

pub returns-then-not-are_peers-clause-gives : goal.returns-then-not-are_peers-clause-gives
returns-then-not-are_peers-clause-gives c =
    let test = same_test c.args.own c.as_slice-2.result.now c.are_peers.result c.are_peers.ensures in
    let refused : c.are_peers.result ≡ false = search rules in
    let numbers : c.as_slice-2.result.now ≡ map (λ (p : PeerRow). p.station) c.args.peers.items =
    c.as_slice-2.ensures.value ∙ c.in_ok-numbers.ensures ∙ ap (map (λ (p : PeerRow). p.station)) c.as_slice.ensures.value in
    inr (numbers_refused c.args.own c.args.targets.now c.args.peers.items (ap (are_peer_numbers c.args.own) (sym numbers) ∙ sym test ∙ refused) ∙ ap Err (sym c.bad.ensures))

pub returns-clause-gives : goal.returns-clause-gives
returns-clause-gives c =
    let test = same_test c.args.own c.as_slice-2.result.now c.are_peers.result c.are_peers.ensures in
    let accepted : c.are_peers.result ≡ true = search rules in
    let apart : c.are_apart.result ≡ true = search rules in
    let numbers : c.as_slice-2.result.now ≡ map (λ (p : PeerRow). p.station) c.args.peers.items =
    c.as_slice-2.ensures.value ∙ c.in_ok-numbers.ensures ∙ ap (map (λ (p : PeerRow). p.station)) c.as_slice.ensures.value in
    peers_accepted c.args.own c.args.targets.now c.args.peers.items (ap (are_peer_numbers c.args.own) (sym numbers) ∙ sym test ∙ accepted)
    (search rules)
