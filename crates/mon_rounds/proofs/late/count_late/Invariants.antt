use Rattle.std.proofs.Common.{◌≡◌, ◌≤◌, length, take}
use Rattle.std.specs.Prelude.{filter}
use Rattle.mon_rounds.specs.Freshness.{is_late_from}
use Rattle.mon_rounds.proofs.late.count_late.Given as goal

-- those so far are counted
abbrev pub invariant-loop-notice : goal.invariant-loop-notice
invariant-loop-notice l = record {
  counted : l.count ≡ length (filter (is_late_from l.address) (take l.notice-index l.notices));
  few : l.count ≤ l.notice-index;
}
