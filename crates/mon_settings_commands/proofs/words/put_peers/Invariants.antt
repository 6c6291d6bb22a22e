use Rattle.std.proofs.Common.{◌≡◌, ◌++◌, List, map, take}
use Rattle.mon_survey.specs.declared.options.Peer.{Peer}
use Rattle.mon_settings_commands.specs.Texts.{ArePeers}
use Rattle.mon_settings_commands.proofs.words.put_peers.Given as goal

-- the texts so far gave these peers
abbrev pub invariant-loop-word : goal.invariant-loop-word
invariant-loop-word l = (more : List Peer) × (l.peers.items ≡ l.fn.peers.items ++ more)
    × ArePeers l.fn.up (map (λ text. text.now) (take l.word-index l.fn.words)) more
