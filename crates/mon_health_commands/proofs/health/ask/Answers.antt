use Rattle.std.proofs.Common.{ℕ, inl, inr, subst}
use Rattle.std.specs.Prelude.{Result}
use Rattle.mon_health_commands.specs.Health.{IsOutcome, stations_by}
use Rattle.mon_health_commands.specs.declared.trouble.Trouble.{Trouble}
use Rattle.mon_health_commands.proofs.health.ask.Goals as goal

pub returns-in-Ok : goal.returns-in-Ok
returns-in-Ok g c =
    let stations = stations_by (g.C.Connects.has_connected c.args.network.now)
    (g.C.Connects.has_failed c.args.network.now) g.C.Stream.Stream.log in
    inr (
      c.socket.result,
      c.socket.ensures,
      inr (
        c.in-Ok.status,
        c.in-Ok.status-test.1,
        subst (λ (o : Result ℕ Trouble). IsOutcome stations c.args.word.now c.socket.result o) c.in-Ok.is
            c.in_ok-outcome_of.ensures,
        c.failure.ensures,
      ),
    )

pub returns-in-Err : goal.returns-in-Err
returns-in-Err g c =
    let stations = stations_by (g.C.Connects.has_connected c.args.network.now)
    (g.C.Connects.has_failed c.args.network.now) g.C.Stream.Stream.log in
    inr (
      c.socket.result,
      c.socket.ensures,
      inl (
        c.in-Err.trouble,
        subst (λ (o : Result ℕ Trouble). IsOutcome stations c.args.word.now c.socket.result o) c.in-Err.is
            c.in_ok-outcome_of.ensures,
        c.failure-in-Err.ensures,
      ),
    )
