use Rattle.std.proofs.Common.{◌≡◌, length, arith, sym, ◌∙◌, ap}
use Rattle.mon_survey.specs.declared.options.Peer.{Peer}
use Rattle.mon_survey.proofs.Zips.{each_place, not_as_long, not_at_place}
use Rattle.mon_survey.proofs.comparing.are_numbered.Goals as goal

pub returns-then-numbers-peers : goal.returns-then-numbers-peers
returns-then-numbers-peers c = not_as_long (λ n (p : Peer). n ≡ p.station) c.args.numbers.now c.args.peers.now c.if-numbers-peers.true

pub returns-then-numbers-place : goal.returns-then-numbers-place
returns-then-numbers-place c =
    let p = c.index-peers-place.result in
    let long : length c.args.numbers.now ≡ length c.args.peers.now = omega (arith, c.if-numbers-peers.false) in
    not_at_place (λ n (p : Peer). n ≡ p.station) c.args.numbers.now c.args.peers.now c.loop-place.place 0 p (omega (arith, c.loop-place-test.true))
    (λ same. c.if-numbers-place.true (same ∙ sym (ap (λ (q : Peer). q.station) c.index-peers-place.is)))

pub returns : goal.returns
returns c =
    let long : length c.args.numbers.now ≡ length c.args.peers.now = omega (arith, c.if-numbers-peers.false) in
    each_place (λ n (p : Peer). n ≡ p.station) c.args.numbers.now c.args.peers.now long (λ k d e lt. c.loop-place.invariant k d e (omega (arith, c.loop-place-test.false, c.loop-place.auto.place-end)))
