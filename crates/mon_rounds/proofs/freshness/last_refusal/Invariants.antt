use Rattle.std.proofs.Common.{◌≡◌, take}
use Rattle.mon_rounds.specs.Freshness.{last_refusal}
use Rattle.mon_rounds.proofs.freshness.last_refusal.Given as goal

-- the last one of those so far
abbrev pub invariant-loop-notice : goal.invariant-loop-notice
invariant-loop-notice l = l.last ≡ last_refusal l.address (take l.notice-index l.notices)
