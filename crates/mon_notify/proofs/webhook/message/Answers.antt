use Rattle.std.proofs.Common.{◌≤◌, ◌∙◌, ap, sym, subst, Some}
use Rattle.std.proofs.lemmas.Result.{IfOk-weaker}
use Rattle.serde_json.specs.Data.{Data, depth}
use Rattle.serde_json.specs.Written.{compact_text, has_float}
use Rattle.mon_notify.proofs.Sound.{no_float, nests}
use Rattle.mon_notify.proofs.webhook.message.Goals as goal

pub returns-clause-text : goal.returns-clause-text
returns-clause-text c =
    let n = c.args.notice.now in
    let same = c.in_ok-value.ensures in
    IfOk-weaker c.to_vec.result _ _ (λ t e. e (ap has_float same ∙ no_float n) ∙ ap compact_text same) c.to_vec.ensures.text

pub returns-clause-read_back : goal.returns-clause-read_back
returns-clause-read_back c =
    let n = c.args.notice.now in
    let same = c.in_ok-value.ensures in
    IfOk-weaker c.to_vec.result _ _
    (λ t e. e (subst (λ (d : Data). depth d ≤ 127) (sym same) (nests n)) ∙ ap (λ (d : Data). Some d) same)
    c.to_vec.ensures.reads_back
