use Rattle.std.specs.Prelude.{string_bytes}
use Rattle.std.proofs.Common.{map, ◌≤◌, ◌∙◌, ap, sym, subst, length, Some, Option, rules}
use Rattle.mon_http.specs.Conversation.{Conversation}
use Rattle.mon_http.specs.Request.{IsProgress}
use Rattle.mon_http.specs.declared.request.Verdict.{Verdict}
use Rattle.mon_http.specs.declared.request.Verdict.TheVariants.{Refused}
use Rattle.mon_http.proofs.Verdicts.{judged_len}
use Rattle.mon_http.proofs.connection.Connection.step.Goals as goal

pub put-requires : goal.put-requires
put-requires c =
    let judged : IsProgress (map string_bytes c.args.names.now) c.args.self.now.unread (Some (Refused c.in-Some-Refused.refusal)) =
    subst (λ (p : Option Verdict). IsProgress (map string_bytes c.args.names.now) c.args.self.now.unread p) (c.in-Some-Refused.is ∙ ap (λ (v : Verdict). Some v) c.in-Some-Refused.field-0-is) c.progress.ensures.progress in
    let len = judged_len (map string_bytes c.args.names.now) c.args.self.now.unread (Refused c.in-Some-Refused.refusal) judged in
    record { whole = subst (λ (s : Conversation). c.in-Some-Refused.refusal.len ≤ length s.unread) (sym c.progress.ensures.kept) len }

pub returns-in-Some-Asked-clause-done : goal.returns-in-Some-Asked-clause-done
returns-in-Some-Asked-clause-done c = (
  subst (λ (p : Option Verdict). IsProgress (map string_bytes c.args.names.now) c.args.self.now.unread p) (c.in-Some-Asked.is ∙ ap (λ (v : Verdict). Some v) c.in-Some-Asked.field-0-is) c.progress.ensures.progress,
  c.progress.ensures.kept,
)

pub returns-in_ok-text-in-Some-Refused-clause-done :
    goal.returns-in_ok-text-in-Some-Refused-clause-done
returns-in_ok-text-in-Some-Refused-clause-done c = (
  c.in-Some-Refused.refusal,
  subst (λ (p : Option Verdict). IsProgress (map string_bytes c.args.names.now) c.args.self.now.unread p) (c.in-Some-Refused.is ∙ ap (λ (v : Verdict). Some v) c.in-Some-Refused.field-0-is) c.progress.ensures.progress,
  search rules,
)
