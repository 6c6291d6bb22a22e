use Rattle.std.proofs.Common.{◌≡◌, ◌++◌, take, string_bytes}
use Rattle.std.specs.List.{flat_map}
use Rattle.mon_survey.specs.Text.{peer_text}
use Rattle.mon_survey.proofs.drafting.put_peers.Given as goal

-- the peers so far
abbrev pub invariant-loop-peer : goal.invariant-loop-peer
invariant-loop-peer l = string_bytes l.text ≡ string_bytes l.initial.text ++ flat_map peer_text (take l.peer-index l.peers)
