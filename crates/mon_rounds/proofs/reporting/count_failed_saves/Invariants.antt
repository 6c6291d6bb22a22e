use Rattle.std.proofs.Common.{◌≡◌, ◌≤◌, length, take}
use Rattle.std.specs.Prelude.{filter}
use Rattle.mon_rounds.specs.Noted.{is_unsaved}
use Rattle.mon_rounds.proofs.reporting.count_failed_saves.Given as goal

-- those so far are counted
abbrev pub invariant-loop-notice : goal.invariant-loop-notice
invariant-loop-notice l = record {
  counted : l.count ≡ length (filter is_unsaved (take l.notice-index l.notices));
  few : l.count ≤ l.notice-index;
}
