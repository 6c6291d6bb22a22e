use Rattle.std.proofs.Common.{◌≡◌, ℕ, List, [], IsTrue, get_or, length, arith, refl, subst}
use Rattle.std.specs.Prelude.{Some, string_bytes}
use Rattle.mon_udp.specs.Addr.{addr_of}
use Rattle.mon_survey.specs.declared.options.Peer.{Peer}
use Rattle.mon_survey.proofs.Zips.{each_place, not_as_long, not_here}
use Rattle.mon_survey.proofs.comparing.are_placed.Goals as goal

pub returns-then-addresses-peers : goal.returns-then-addresses-peers
returns-then-addresses-peers c = not_as_long (λ a (p : Peer). addr_of (string_bytes p.address) ≡ Some a) c.args.addresses.now c.args.peers.now c.if-addresses-peers.true

pub returns-then-not-is_address : goal.returns-then-not-is_address
returns-then-not-is_address c =
    not_here (λ a (p : Peer). addr_of (string_bytes p.address) ≡ Some a) c.args.addresses.now c.args.peers.now c.loop-place.place _ c.index-peers-place.result _ c.index-peers-place.result c.is_address.result (omega (arith, c.if-addresses-peers.false)) (omega (arith, c.loop-place-test.true)) refl c.index-peers-place.is
    (subst (λ (t : List ℕ). (IsTrue c.is_address.result → addr_of t ≡ Some (get_or c.args.addresses.now c.loop-place.place (record { octets = []; port = 0 }))) × (addr_of t ≡ Some (get_or c.args.addresses.now c.loop-place.place (record { octets = []; port = 0 })) → IsTrue c.is_address.result)) c.as_str.ensures.value c.is_address.ensures) c.if-not-is_address.true

pub returns : goal.returns
returns c =
    let long : length c.args.addresses.now ≡ length c.args.peers.now = omega (arith, c.if-addresses-peers.false) in
    each_place (λ a (p : Peer). addr_of (string_bytes p.address) ≡ Some a) c.args.addresses.now c.args.peers.now long (λ k d e lt. c.loop-place.invariant k d e (omega (arith, c.loop-place-test.false, c.loop-place.auto.place-end)))
