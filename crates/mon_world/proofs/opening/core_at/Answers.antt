use Rattle.std.proofs.Common.{◌≡◌, ◌+◌, ◌-◌, ◌++◌, ◌∷◌, [], List, ℕ, sym, ◌∙◌, ap, subst, arith}
use Rattle.std.specs.Prelude.{◌==◌, if◌then◌else◌}
use Rattle.mon_config.specs.StationCore.{ArePeersOf, Core}
use Rattle.mon_station.specs.Opened.{setting_in}
use Rattle.mon_world.specs.Places.{others_to, setting_at}
use Rattle.mon_world.proofs.Others.{others_next, peers_of_station}
use Rattle.mon_world.proofs.Results.{ok_is}
use Rattle.mon_world.proofs.opening.core_at.Goals as goal

pub loop-peer-preserved : goal.loop-peer-preserved
loop-peer-preserved c =
    c.in_ok-push_other.ensures
    ∙ ap (λ (l : List ℕ). if c.loop-peer.peer == c.args.number then l else l ++ c.loop-peer.peer ∷ []) c.loop-peer.invariant
    ∙ sym (others_next c.args.number c.loop-peer.peer (omega (arith, c.loop-peer.auto.peer)))

peers_are : (count end : ℕ) (items held : List ℕ) (number : ℕ) → held ≡ items → items ≡ others_to number (end - 1) → end ≡ count + 1 → held ≡ others_to number count
peers_are count end items held number same is last =
    let here : end - 1 ≡ count = omega (arith, last) in
    same ∙ is ∙ ap (others_to number) here

pub with-requires-clause-peers : goal.with-requires-clause-peers
with-requires-clause-peers c =
    let all : c.deref.result.now ≡ others_to c.args.number c.args.count =
    peers_are c.args.count c.loop-peer.peer c.loop-peer.peers.items c.deref.result.now c.args.number c.deref.ensures.value c.loop-peer.invariant (omega (arith, c.loop-peer.auto, c.requires.last, c.requires.first)) in
    subst (ArePeersOf c.args.number) (sym all) (peers_of_station c.args.number c.args.count c.requires.first c.requires.last c.requires.few)

pub returns : goal.returns
returns c =
    let all : c.deref.result.now ≡ others_to c.args.number c.args.count =
    peers_are c.args.count c.loop-peer.peer c.loop-peer.peers.items c.deref.result.now c.args.number c.deref.ensures.value c.loop-peer.invariant (omega (arith, c.loop-peer.auto, c.requires.last, c.requires.first)) in
    ok_is c.with.result _ _ (λ (one : Core) is. ap setting_in is ∙ (λ j. record (setting_at c.args.core.now c.args.count c.args.number) { peers = all j })) c.with.ensures
