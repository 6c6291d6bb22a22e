use Rattle.std.proofs.Common.{◌≡◌, ◌++◌, take}
use Rattle.std.specs.List.{flat_map}
use Rattle.mon_page.specs.Page.{peer_item}
use Rattle.mon_page.proofs.wrong.put_peers.Given as goal

-- those so far are written
abbrev pub invariant-loop-peer : goal.invariant-loop-peer
invariant-loop-peer l = l.text.items ≡ l.fn.text.items ++ flat_map peer_item (take l.peer-index l.peers)
