use Rattle.std.proofs.Common.{Bor, List, ℕ, [], sym}
use Rattle.std.specs.Prelude.{}
use Rattle.std.proofs.lemmas.List.{append-nil}
use Rattle.mon_settings_commands.proofs.Counting.{put_all, put_on}
use Rattle.mon_settings_commands.proofs.words.put_peers.Goals as goal

pub loop-word-init : goal.loop-word-init
loop-word-init c = ([], sym (append-nil c.args.peers.now.items), tt)

pub loop-word-preserved : goal.loop-word-preserved
loop-word-preserved c = put_on (λ (text : Bor (List ℕ)). text.now) c.args.up c.args.words.now c.loop-word.word-index _ c.args.peers.now.items c.loop-word.peers.items
    c.put_peer.new.peers.items c.loop-word-test.true c.loop-word.invariant c.in_ok-put_peer.ensures.put

pub returns-clause-put : goal.returns-clause-put
returns-clause-put c = put_all (λ (text : Bor (List ℕ)). text.now) c.args.up c.args.words.now c.loop-word.word-index c.args.peers.now.items c.loop-word.peers.items c.loop-word-test.false
    c.loop-word.invariant
