use Rattle.std.proofs.Common.{rules, true, ◌≡◌, ◌∙◌, ◌∷◌, [], List, ℕ, Bor, map, string_bytes, subst, sym}
use Rattle.std.specs.List.{filter}
use Rattle.std.proofs.lemmas.List.{map-append}
use Rattle.std.proofs.lemmas.Iterator.Consumers.{YieldsList-end}
use Rattle.std.proofs.lemmas.Iterator.Splits.{YieldsList-from_lines}
use Rattle.hex.specs.Hex.{decode_of}
use Rattle.mon_vacm.specs.Tables.{PolicyTables}
use Rattle.mon_mib.specs.declared.settings.Settings.{Settings}
use Rattle.mon_agent.specs.State.{policy_of, settings_of}
use Rattle.mon_serving.specs.Served.{AnswersIt, stands}
use Rattle.mon_answers.specs.Answered.{ArePrinted, IsPrinted, Appends, is_read}
use Rattle.mon_answers.proofs.Turns.{line_printed, moved}
use Rattle.mon_answers.proofs.answering.answer_lines.Goals as goal

pub loop-line-preserved : goal.loop-line-preserved
loop-line-preserved g c =
    let Answers = AnswersIt g.D.Device.held g.D.Device.failed g.D.Device.refuses in
    let Here = Answers (policy_of c.args.agent.now) (settings_of c.args.agent.now) in
    let before = stands c.args.agent.now in
    let between = stands c.loop-line.agent in
    let after = stands c.put_line.new.agent in
    let old = string_bytes c.loop-line.printed in
    let new = string_bytes c.put_line.new.printed in
    let line = c.in-Some.line.now in
    let something : is_read line ≡ true = search (rules) in
    let more : Appends (IsPrinted Here c.args.scene.now (decode_of line) between after) old new =
    moved (λ (p : PolicyTables) (s : Settings). Appends (IsPrinted (Answers p s) c.args.scene.now (decode_of line) between after) old new)
    (policy_of c.loop-line.agent) (policy_of c.args.agent.now) (settings_of c.loop-line.agent) (settings_of c.args.agent.now) c.loop-line.invariant.policy
    c.loop-line.invariant.settings c.in_ok-put_line.ensures.printed in
    record {
      printed = subst (λ (lines : List (List ℕ)). ArePrinted Here c.args.scene.now (filter is_read lines) before after new)
          (sym (map-append (λ (line : Bor (List ℕ)). line.now) c.loop-line.yielded (c.in-Some.line ∷ [])))
          (line_printed Here c.args.scene.now (map (λ (line : Bor (List ℕ)). line.now) c.loop-line.yielded) line before between after old new c.loop-line.invariant.printed something more);
      policy = c.put_line.ensures.policy ∙ c.loop-line.invariant.policy;
      settings = c.put_line.ensures.settings ∙ c.loop-line.invariant.settings;
    }

pub returns-clause-printed : goal.returns-clause-printed
returns-clause-printed g c =
    let Here = AnswersIt g.D.Device.held g.D.Device.failed g.D.Device.refuses (policy_of c.args.agent.now) (settings_of c.args.agent.now) in
    let all = YieldsList-end (YieldsList-from_lines c.args.text.now cc) c.loop-line.yielded _ c.loop-line.yielded_by _ _ c.in-None.is c.next.ensures.steps in
    subst (λ (lines : List (List ℕ)). ArePrinted Here c.args.scene.now (filter is_read lines) (stands c.args.agent.now) (stands c.loop-line.agent) (string_bytes c.loop-line.printed))
    all.0 c.loop-line.invariant.printed
