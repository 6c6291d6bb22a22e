use Rattle.std.proofs.Common.{◌≡◌, ◌≤◌, ℕ, List, length, map, take, ap, ◌∙◌, arith}
use Rattle.std.proofs.lemmas.List.{length-map, length-take, take_all}
use Rattle.mon_exchange.specs.Peers.{known_incarnation, peer_numbers, unheard}
use Rattle.mon_exchange.specs.declared.peers.Peer.{Peer}
use Rattle.mon_exchange.proofs.Slots.{none_known, numbers_unheard}
use Rattle.mon_exchange.proofs.peers.Peers.new.Goals as goal

all_pushed : (numbers : List ℕ) (n : ℕ) (peers : List Peer) → length numbers ≤ n → peers ≡ map unheard (take n numbers) → peers ≡ map unheard numbers
all_pushed numbers n peers done so_far = so_far ∙ ap (map unheard) (take_all n numbers done)

pub invariant_of-result : goal.invariant_of-result
invariant_of-result c =
    let so_far = take c.loop-number.number-index c.args.numbers.now in
    let few : length c.loop-number.peers.items ≤ 15 =
    omega (arith, ap length c.loop-number.invariant, length-map so_far unheard, length-take c.loop-number.number-index c.args.numbers.now, c.requires.few) in
    record { own = c.requires.own; few = few }

pub returns-clause-numbers : goal.returns-clause-numbers
returns-clause-numbers c =
    let all = all_pushed c.args.numbers.now c.loop-number.number-index c.loop-number.peers.items (omega (arith, c.loop-number-test.false)) c.loop-number.invariant in
    ap peer_numbers all ∙ numbers_unheard c.args.numbers.now

pub returns-clause-unknown : goal.returns-clause-unknown
returns-clause-unknown c = λ y.
    let all = all_pushed c.args.numbers.now c.loop-number.number-index c.loop-number.peers.items (omega (arith, c.loop-number-test.false)) c.loop-number.invariant in
    ap (λ (l : List Peer). known_incarnation l y) all ∙ none_known c.args.numbers.now y
