use Rattle.std.specs.Prelude.{string_bytes}
use Rattle.std.proofs.Common.{map, ◌≡◌, ◌∙◌, ap, sym, subst, ℕ, List, take, Some, None, Option, false, rules}
use Rattle.mon_http.specs.Front.{head_length}
use Rattle.mon_http.specs.Conversation.{Conversation}
use Rattle.mon_http.specs.Request.{long_status, refusal, IsProgress, IsJudged, IsVerdict}
use Rattle.mon_http.specs.declared.request.Verdict.{Verdict}
use Rattle.mon_http.specs.declared.response.Status.{Status}
use Rattle.mon_http.proofs.Verdicts.{judged_found, judged_long}
use Rattle.mon_http.proofs.connection.Connection.progress.Goals.{then-len-lt-MAX_OCTETS, else-len-lt-MAX_OCTETS}
use Rattle.mon_http.proofs.connection.Connection.progress.Goals as goal

pub returns-in-Some-clause-progress : goal.returns-in-Some-clause-progress
returns-in-Some-clause-progress c =
    let items = c.self.inside.input.items in
    let found : head_length false items ≡ Some c.in-Some.n = ap (head_length false) (sym c.deref.ensures.value) ∙ sym c.scan-found.ensures.end ∙ c.in-Some.is in
    let judged : IsVerdict (map string_bytes c.args.names.now) (take c.in-Some.n items) c.judge.result = subst (λ (s : List ℕ). IsVerdict (map string_bytes c.args.names.now) (take c.in-Some.n s) c.judge.result) c.deref-in-Some.ensures.value c.judge.ensures in
    subst (λ (s : Conversation). IsJudged (map string_bytes c.args.names.now) s.unread c.judge.result) c.self.view_is (judged_found (map string_bytes c.args.names.now) items c.in-Some.n c.judge.result (search rules) found judged)

pub returns-after-len-lt-MAX_OCTETS-clause-progress :
    goal.returns-after-len-lt-MAX_OCTETS-clause-progress
returns-after-len-lt-MAX_OCTETS-clause-progress c =
    let items = c.self.inside.input.items in
    let quiet : head_length false items ≡ None = ap (head_length false) (sym c.deref.ensures.value) ∙ sym c.scan-found.ensures.end ∙ c.in-None.is in
    subst (λ (s : Conversation). IsProgress (map string_bytes c.args.names.now) s.unread c.if-len-lt-MAX_OCTETS.result) c.self.view_is
    (elim c.if-len-lt-MAX_OCTETS.branch as (λ _. IsProgress (map string_bytes c.args.names.now) items c.if-len-lt-MAX_OCTETS.result) [
      | then-len-lt-MAX_OCTETS w ↦ subst (λ (p : Option Verdict). IsProgress (map string_bytes c.args.names.now) items p) (sym w.result-is) (quiet, search rules)
      | else-len-lt-MAX_OCTETS w ↦ subst (λ (p : Option Verdict). IsProgress (map string_bytes c.args.names.now) items p) (sym w.result-is) (judged_long (map string_bytes c.args.names.now) items w.refuse.result (search rules) (search rules) quiet (w.refuse.ensures ∙ ap (λ (s : Status). refusal s false 0) (w.long_status.ensures ∙ ap long_status w.deref-else-len-lt-MAX_OCTETS.ensures.value)))
    ])
