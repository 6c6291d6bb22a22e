use Rattle.std.proofs.Common.{List, ℕ, [], ◌≡◌, refl, subst}
use Rattle.std.specs.Prelude.{Err, Ok, Result}
use Rattle.mon_console.specs.declared.failure.Failure.{Failure}
use Rattle.mon_host.specs.Then.{Quietly, Then}
use Rattle.mon_survey.specs.Column.{columns}
use Rattle.mon_survey.specs.declared.answers.Cell.{Cell}
use Rattle.mon_settings_commands.specs.Engine.{IsHead, IsSameEngine}
use Rattle.mon_settings_commands.specs.Exchange.{AsksBy}
use Rattle.mon_settings_commands.specs.Surveyed.{AreWalked, IsSurveyOf}
use Rattle.mon_settings_commands.specs.declared.asking.Head.{Head}
use Rattle.mon_settings_commands.specs.declared.asking.Survey.{Survey}
use Rattle.mon_settings_commands.proofs.Exchanged.{asks_fail, asks_quietly, asks_then}
use Rattle.mon_settings_commands.proofs.asking.survey_by.Goals as goal

pub returns-in_err-walk_columns : goal.returns-in_err-walk_columns
returns-in_err-walk_columns g c =
    let agent = c.args.asked.agent.word.now in
    let kinds = c.args.asked.kinds in
    let community = c.args.asked.community.now in
    let before = g.W.Wire.log c.args.asker.now.wire in
    let middle = g.W.Wire.log c.first.new.asker.wire in
    let after = g.W.Wire.log c.walk_columns.new.asker.wire in
    let id = c.args.asker.now.last_id in
    let between = c.first.new.asker.last_id in
    let last = c.walk_columns.new.asker.last_id in
    let head = c.in_ok-engine.field-0 in
    let failure = c.in_err-walk_columns.field-0.0 in
    let result = c.from_residual-in_err-walk_columns.result in
    let walked = subst (λ (cells : List Cell). AsksBy (λ log. AreWalked agent kinds columns cells log (Err failure)) community between last middle after) c.new-answers.ensures c.in_err-walk_columns.ensures in
    asks_then community (IsHead agent) (λ (head : Head). Then (AreWalked agent kinds columns []) (λ (cells : List Cell). IsSurveyOf agent head cells)) head result id between last before middle after
    c.in_ok-engine.ensures (asks_fail community (AreWalked agent kinds columns []) (λ (cells : List Cell). IsSurveyOf agent head cells) failure result between last middle after
    c.from_residual-in_err-walk_columns.ensures.1 walked)

pub returns-in_err-require_engine : goal.returns-in_err-require_engine
returns-in_err-require_engine g c =
    let agent = c.args.asked.agent.word.now in
    let kinds = c.args.asked.kinds in
    let community = c.args.asked.community.now in
    let before = g.W.Wire.log c.args.asker.now.wire in
    let middle = g.W.Wire.log c.first.new.asker.wire in
    let later = g.W.Wire.log c.walk_columns.new.asker.wire in
    let after = g.W.Wire.log c.require_engine.new.asker.wire in
    let id = c.args.asker.now.last_id in
    let between = c.first.new.asker.last_id in
    let then = c.walk_columns.new.asker.last_id in
    let last = c.require_engine.new.asker.last_id in
    let head = c.in_ok-engine.field-0 in
    let cells = c.walk_columns.new.answers in
    let failure = c.in_err-require_engine.field-0.0 in
    let result = c.from_residual-in_err-require_engine.result in
    let walked = subst (λ (none : List Cell). AsksBy (λ log. AreWalked agent kinds columns none log (Ok cells)) community between then middle later) c.new-answers.ensures c.in_ok-walk_columns.ensures in
    let same = subst (λ (engine : List ℕ). AsksBy (λ log. IsSameEngine agent engine log (Err failure)) community then last later after) c.as_slice.ensures.value c.in_err-require_engine.ensures in
    asks_then community (IsHead agent) (λ (head : Head). Then (AreWalked agent kinds columns []) (λ (cells : List Cell). IsSurveyOf agent head cells)) head result id between last before middle after
    c.in_ok-engine.ensures (asks_then community (AreWalked agent kinds columns []) (λ (cells : List Cell). IsSurveyOf agent head cells) cells result between then last middle later after walked
    (asks_fail community (IsSameEngine agent head.engine.items)
    (λ done. Quietly (λ (r : Result Survey Failure). r ≡ Ok (record { engine = head.engine; number = head.number; answers = cells }))) failure result then last later after
    c.from_residual-in_err-require_engine.ensures.1 same))

pub returns : goal.returns
returns g c =
    let agent = c.args.asked.agent.word.now in
    let kinds = c.args.asked.kinds in
    let community = c.args.asked.community.now in
    let before = g.W.Wire.log c.args.asker.now.wire in
    let middle = g.W.Wire.log c.first.new.asker.wire in
    let later = g.W.Wire.log c.walk_columns.new.asker.wire in
    let after = g.W.Wire.log c.require_engine.new.asker.wire in
    let id = c.args.asker.now.last_id in
    let between = c.first.new.asker.last_id in
    let then = c.walk_columns.new.asker.last_id in
    let last = c.require_engine.new.asker.last_id in
    let head = c.in_ok-engine.field-0 in
    let cells = c.walk_columns.new.answers in
    let survey : Survey = record { engine = head.engine; number = head.number; answers = cells } in
    let walked = subst (λ (none : List Cell). AsksBy (λ log. AreWalked agent kinds columns none log (Ok cells)) community between then middle later) c.new-answers.ensures c.in_ok-walk_columns.ensures in
    let same = subst (λ (engine : List ℕ). AsksBy (λ log. IsSameEngine agent engine log (Ok c.in_ok-require_engine.field-0)) community then last later after) c.as_slice.ensures.value
    c.in_ok-require_engine.ensures in
    asks_then community (IsHead agent) (λ (head : Head). Then (AreWalked agent kinds columns []) (λ (cells : List Cell). IsSurveyOf agent head cells)) head (Ok survey) id between last before middle after
    c.in_ok-engine.ensures (asks_then community (AreWalked agent kinds columns []) (λ (cells : List Cell). IsSurveyOf agent head cells) cells (Ok survey) between then last middle later after walked
    (asks_then community (IsSameEngine agent head.engine.items) (λ done. Quietly (λ (r : Result Survey Failure). r ≡ Ok survey)) c.in_ok-require_engine.field-0 (Ok survey) then last last later after after
    same (asks_quietly community (λ (r : Result Survey Failure). r ≡ Ok survey) (Ok survey) last after refl)))
