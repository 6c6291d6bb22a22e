-- How long a round of settings takes at most.
use Rattle.std.specs.Prelude.{◌*◌}
use Rattle.mon_settings.specs.RoundTime.{greatest_tries, has_some, waits}
use Rattle.mon_settings.specs.StationAccepted.{Station}
use Rattle.mon_survey.specs.declared.longest.LongestRound.{LongestRound}

-- how long a round of these settings takes at most, four times its waits if no target answers, and
-- what that follows from
abbrev pub longest_of : Station → LongestRound
longest_of s = record {
  most = 4 * waits s.wait_ms (greatest_tries s.core.targets) (has_some s.core.peers);
  wait_ms = s.wait_ms;
  tries = greatest_tries s.core.targets;
}
