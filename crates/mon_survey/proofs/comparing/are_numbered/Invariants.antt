use Rattle.std.proofs.Common.{◌≡◌, ℕ, ◌<◌, get_or}
use Rattle.mon_survey.specs.declared.options.Peer.{Peer}
use Rattle.mon_survey.proofs.comparing.are_numbered.Given as goal

-- they agree so far
abbrev pub invariant-loop-place : goal.invariant-loop-place
invariant-loop-place l = (k : ℕ) (d : ℕ) (e : Peer) → k < l.place → (get_or l.numbers k d) ≡ (get_or l.peers k e).station
