use Rattle.std.proofs.Common.{◌≡◌, ◌≤◌, ◌⊎◌, ℕ, suc}
use Rattle.mon_host.specs.Log.{GoesOnBy}
use Rattle.mon_station_commands.specs.Rounds.{AreRounds}
use Rattle.mon_station_commands.proofs.station.run_all.Given as goal

-- the rounds so far, and what reports need is as it was
abbrev pub invariant-loop-number : goal.invariant-loop-number
invariant-loop-number g l = (n : ℕ) × (l.number ≡ suc n) × ((suc n ≤ l.fn.words.timing.rounds) ⊎ (suc n ≡ 1))
    × GoesOnBy (λ log. AreRounds l.fn.words l.fn.live.reports.printing l.fn.live.reports.paths l.fn.live.kept n log l.live.kept)
    (g.H.Host.log l.fn.host) (g.H.Host.log l.host)
    × (l.live.reports.printing ≡ l.fn.live.reports.printing) × (l.live.reports.paths ≡ l.fn.live.reports.paths)
