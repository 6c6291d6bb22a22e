use Rattle.std.proofs.Common.{◌≡◌}
use Rattle.mon_faults.specs.Fault.{innermost_of}
use Rattle.mon_station.specs.Fault.{Told}
use Rattle.mon_console.proofs.Steps.{told}
use Rattle.mon_console.proofs.failure.Failure.report.Goals as goal

pub returns-then-innermost-ne-OUT_OF_MEMORY : goal.returns-then-innermost-ne-OUT_OF_MEMORY
returns-then-innermost-ne-OUT_OF_MEMORY g c =
    let i = c.innermost-innermost.result in
    let is = c.innermost-innermost.ensures in
    let named : Told = record { part = i.part.now; number = i.number; name = i.name.now } in
    let same : named ≡ innermost_of c.args.self.now.fault = λ k. record { part = is.part k; number = is.number k; name = is.name k } in
    told c.args.level c.args.self.now named (g.H.Host.log c.args.host.now) (g.H.Host.log c.note.new.self) (g.H.Host.log c.report_more.new.host) same
    c.if-innermost-ne-OUT_OF_MEMORY.true c.note.ensures c.report_more.ensures
