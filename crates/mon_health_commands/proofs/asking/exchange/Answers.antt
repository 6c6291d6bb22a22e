use Rattle.std.proofs.Common.{[], List, ℕ, subst}
use Rattle.mon_host.specs.Log.{GoesOnBy}
use Rattle.mon_host.specs.Then.{Then}
use Rattle.mon_health_commands.specs.Asking.{IsLimited, IsReceiving, IsSending}
use Rattle.mon_health_commands.specs.AtStream.{AtStream, ReadsLimited, WritesLimited}
use Rattle.mon_health_commands.specs.declared.trouble.Trouble.{Trouble}
use Rattle.mon_health_commands.proofs.Streaming.{follows, stopped}
use Rattle.std.specs.Prelude.{Result}
use Rattle.mon_health_commands.proofs.asking.exchange.Goals as goal

-- what follows once waits are limited, and once the request is sent
abbrev to_send : List ℕ → Unit {0} → List AtStream → Result ℕ Trouble → Type 0
to_send request done = Then (IsSending request) (λ (done : Unit {0}). IsReceiving 8 [])

abbrev to_limit : List ℕ → Unit {0} → List AtStream → Result ℕ Trouble → Type 0
to_limit request done = Then (IsLimited (WritesLimited 2)) (to_send request)

pub returns-in_err-limit_writes : goal.returns-in_err-limit_writes
returns-in_err-limit_writes g c =
    let start = g.S.Stream.log c.args.stream.now in
    let read = g.S.Stream.log c.limit_reads.new.stream in
    let request = c.args.request.now in
    follows (IsLimited (ReadsLimited 2)) (to_limit request) tt _ start read _ c.in_ok-limit_reads.ensures
    (stopped (IsLimited (WritesLimited 2)) (to_send request) c.in_err-limit_writes.field-0.0 _ read _
    c.from_residual-in_err-limit_writes.ensures.1 c.in_err-limit_writes.ensures)

pub returns-in_err-send : goal.returns-in_err-send
returns-in_err-send g c =
    let start = g.S.Stream.log c.args.stream.now in
    let read = g.S.Stream.log c.limit_reads.new.stream in
    let written = g.S.Stream.log c.limit_writes.new.stream in
    let request = c.args.request.now in
    follows (IsLimited (ReadsLimited 2)) (to_limit request) tt _ start read _ c.in_ok-limit_reads.ensures
    (follows (IsLimited (WritesLimited 2)) (to_send request) tt _ read written _ c.in_ok-limit_writes.ensures
    (stopped (IsSending request) (λ (done : Unit {0}). IsReceiving 8 []) c.in_err-send.field-0.0 _ written _
    c.from_residual-in_err-send.ensures.1 c.in_err-send.ensures))

pub returns : goal.returns
returns g c =
    let start = g.S.Stream.log c.args.stream.now in
    let read = g.S.Stream.log c.limit_reads.new.stream in
    let written = g.S.Stream.log c.limit_writes.new.stream in
    let sent = g.S.Stream.log c.send.new.stream in
    let request = c.args.request.now in
    follows (IsLimited (ReadsLimited 2)) (to_limit request) tt _ start read _ c.in_ok-limit_reads.ensures
    (follows (IsLimited (WritesLimited 2)) (to_send request) tt _ read written _ c.in_ok-limit_writes.ensures
    (follows (IsSending request) (λ (done : Unit {0}). IsReceiving 8 []) tt _ written sent _ c.in_ok-send.ensures
    (subst (λ (o : List ℕ). GoesOnBy (λ log. IsReceiving 8 o log c.receive.result) sent (g.S.Stream.log c.receive.new.stream))
    c.requires.empty c.receive.ensures)))
