use Rattle.std.proofs.Common.{List, ℕ, ap, subst}
use Rattle.std.specs.Prelude.{Ok, Err, Result}
use Rattle.mon_host.proofs.Promised.{then_fails}
use Rattle.mon_host.specs.Log.{GoesOnBy}
use Rattle.mon_commands.specs.Replaying.{AreRefused, IsReported, PrintsReport}
use Rattle.mon_console.specs.Files.{IsInput, IsPrint}
use Rattle.mon_commands.proofs.Steps.{failed, follows, silent_then}
use Rattle.mon_commands.proofs.recorded.print_report.Goals as goal

pub returns-in_err-put_refused : goal.returns-in_err-put_refused
returns-in_err-put_refused g c =
    let input = c.in_ok-input.input in
    let r = c.in_ok-reported.reported in
    let printing = c.args.printing.now in
    let failure = c.in_err-put_refused.field-0.0 in
    let is = subst (λ (o : List ℕ). IsReported c.args.size o printing (Ok r)) c.deref.ensures.value c.in_ok-reported.ensures in
    let done = subst (λ (o : List ℕ). GoesOnBy (λ log. AreRefused printing.format o log (Err failure)) (g.H.Host.log c.read_input.new.host) (g.H.Host.log c.put_refused.new.host))
    c.refused.ensures c.in_err-put_refused.ensures in
    failed (PrintsReport c.args.size printing) c.from_residual-in_err-put_refused.result failure _ _ c.from_residual-in_err-put_refused.ensures.1
    (follows IsInput _ input _ _ _ _ c.in_ok-input.ensures (silent_then (IsReported c.args.size input.items printing) _ r _ _ _ is
    (then_fails (AreRefused printing.format r.recorded.refused) (λ done. IsPrint r.text.items) failure _ _ done)))

pub returns : goal.returns
returns g c =
    let input = c.in_ok-input.input in
    let r = c.in_ok-reported.reported in
    let printing = c.args.printing.now in
    let is = subst (λ (o : List ℕ). IsReported c.args.size o printing (Ok r)) c.deref.ensures.value c.in_ok-reported.ensures in
    let done = subst (λ (o : List ℕ). GoesOnBy (λ log. AreRefused printing.format o log (Ok c.in_ok-put_refused.field-0)) (g.H.Host.log c.read_input.new.host)
    (g.H.Host.log c.put_refused.new.host)) c.refused.ensures c.in_ok-put_refused.ensures in
    let printed = subst (λ (o : List ℕ). GoesOnBy (λ log. IsPrint o log c.print.result) (g.H.Host.log c.put_refused.new.host) (g.H.Host.log c.print.new.host))
    c.deref-2.ensures.value c.print.ensures in
    follows IsInput _ input _ _ _ _ c.in_ok-input.ensures (silent_then (IsReported c.args.size input.items printing) _ r _ _ _ is
    (follows (AreRefused printing.format r.recorded.refused) (λ done. IsPrint r.text.items) c.in_ok-put_refused.field-0 _ _ _ _ done printed))
