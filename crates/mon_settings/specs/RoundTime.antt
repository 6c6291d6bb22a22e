-- How long a round of a station waits.
use Rattle.std.specs.Prelude.{Bool, true, false, ℕ, ◌+◌, ◌*◌, List, [], ◌∷◌, if◌then◌else◌, max}
use Rattle.std.specs.List.{fold}
use Rattle.mon_poller.specs.declared.target.Target.{Target}

-- The milliseconds that a round waits if it waits once after its polls, once after each wait with
-- open polls that times out, and with peers once after its shares.
abbrev pub waits : (wait_ms quiet : ℕ) (has_peers : Bool) → ℕ
waits wait_ms quiet has_peers = wait_ms * (1 + quiet + (if has_peers then 1 else 0))

-- how often a poll is sent at most, over all targets: as many waits time out if none answers
abbrev pub greatest_tries : List Target → ℕ
greatest_tries targets = fold (λ most t. max most t.tries) 0 targets

-- whether a list has an element
abbrev pub has_some : List ℕ → Bool
has_some [] = false
has_some (x ∷ xs) = true
