use Rattle.std.proofs.Common.{codes}
use Rattle.mon_console.specs.Files.{IsPrint}
use Rattle.mon_host.specs.Then.{Quietly, Then}
use Rattle.mon_udp.specs.declared.addr.Addr.{Addr}
use Rattle.mon_health_commands.specs.Health.{IsAddress, IsAsked, stations_by}
use Rattle.mon_health_commands.proofs.Steps.{silent_stopped, silent_then}
use Rattle.mon_health_commands.proofs.health.ask_health.Goals as goal

pub returns-in_err-at : goal.returns-in_err-at
returns-in_err-at g c =
    let stations = stations_by (g.C.Connects.has_connected c.args.network.now)
    (g.C.Connects.has_failed c.args.network.now) g.C.Stream.Stream.log in
    let word = c.args.word.now in
    silent_stopped (IsAddress word) (λ (at : Addr). Then (Quietly (IsAsked stations word at))
    (λ (done : Unit {0}). IsPrint (codes "healthy\n"))) c.in_err-at.field-0.0 c.from_residual.result
    (g.H.Host.log c.args.host.now) c.from_residual.ensures.1 c.in_err-at.ensures

pub returns-in_err-ask : goal.returns-in_err-ask
returns-in_err-ask g c =
    let stations = stations_by (g.C.Connects.has_connected c.args.network.now)
    (g.C.Connects.has_failed c.args.network.now) g.C.Stream.Stream.log in
    let word = c.args.word.now in
    let told = g.H.Host.log c.args.host.now in
    silent_then (IsAddress word) (λ (at : Addr). Then (Quietly (IsAsked stations word at))
    (λ (done : Unit {0}). IsPrint (codes "healthy\n"))) c.in_ok-at.at c.from_residual-in_err-ask.result
    told told c.in_ok-at.ensures
    (silent_stopped (IsAsked stations word c.in_ok-at.at) (λ (done : Unit {0}). IsPrint (codes "healthy\n"))
    c.in_err-ask.field-0.0 c.from_residual-in_err-ask.result told c.from_residual-in_err-ask.ensures.1
    c.in_err-ask.ensures)
