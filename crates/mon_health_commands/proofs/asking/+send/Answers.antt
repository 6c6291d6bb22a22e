use Rattle.std.proofs.Common.{List, subst, sym}
use Rattle.std.specs.Prelude.{Err}
use Rattle.std.specs.IoError.{error_kind}
use Rattle.std.specs.declared.io.ErrorKind.{ErrorKind}
use Rattle.mon_host.specs.Log.{GoesOnBy}
use Rattle.mon_health_commands.specs.Asking.{IsSending}
use Rattle.mon_health_commands.specs.declared.trouble.Trouble.TheVariants.{Broken}
use Rattle.mon_health_commands.proofs.Streaming.{is_stuck, is_unsent, none_there, nothing_left, some_there, went_on}
use Rattle.mon_health_commands.proofs.asking.+send.Goals as goal

pub returns-then-is_empty : goal.returns-then-is_empty
returns-then-is_empty g t c =
    nothing_left c.args.octets.now _ (none_there c.args.octets.now c.is_empty.result c.is_empty.ensures c.if-is_empty.true)

pub returns-in-Ok-eq0 : goal.returns-in-Ok-eq0
returns-in-Ok-eq0 g t c =
    is_stuck c.args.octets.now c.in-Ok-eq0.field-0 _ _
    (some_there c.args.octets.now c.is_empty.result c.is_empty.ensures c.if-is_empty.false) c.in-Ok-eq0.field-0-test
    c.in-Ok-eq0.ensures.log

pub returns-in-Ok : goal.returns-in-Ok
returns-in-Ok g t c =
    went_on c.args.octets.now c.in-Ok.n c.send.result _ _ _
    (some_there c.args.octets.now c.is_empty.result c.is_empty.ensures c.if-is_empty.false) c.in-Ok.n-test.1
    c.in-Ok.ensures.log c.send.ensures

pub returns-in-Err : goal.returns-in-Err
returns-in-Err g t c =
    let before = g.S.Stream.log c.args.stream.now in
    let after = g.S.Stream.log c.put.new.self in
    let octets = c.args.octets.now in
    subst (λ (k : ErrorKind). GoesOnBy (λ log. IsSending octets log (Err (Broken k))) before after) (sym c.kind.ensures)
    (is_unsent octets (error_kind c.in-Err.error) before after
    (some_there octets c.is_empty.result c.is_empty.ensures c.if-is_empty.false) c.in-Err.ensures.log)
