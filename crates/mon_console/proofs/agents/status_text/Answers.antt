use Rattle.std.proofs.Common.{◌∙◌, ap, refl, sym}
use Rattle.std.specs.Int.{cast_signed, cast_unsigned, w32}
use Rattle.std.proofs.lemmas.Int.{to_z-of_z}
use Rattle.mon_console.proofs.Statuses.{about, about_none, word_is}
use Rattle.mon_console.proofs.agents.status_text.Goals as goal

pub returns-then-index-eq0 : goal.returns-then-index-eq0
returns-then-index-eq0 c =
    let status = to_z-of_z w32 c.args.status c.ranges.status in
    let index = to_z-of_z w32 c.args.index c.ranges.index in
    let word = word_is c.status_name.result c.unwrap_or-name.result _ _ c.args.status status c.unwrap_or-name.ensures c.status_name.ensures refl in
    about_none c.format.result c.args.agent.now c.unwrap_or-name.result.now c.args.status c.args.index _ status c.format.ensures.ok word
    (sym index ∙ ap (cast_signed w32) c.if-index-eq0.true)

pub returns : goal.returns
returns c =
    let status = to_z-of_z w32 c.args.status c.ranges.status in
    let index = to_z-of_z w32 c.args.index c.ranges.index in
    let word = word_is c.status_name.result c.unwrap_or-name.result _ _ c.args.status status c.unwrap_or-name.ensures c.status_name.ensures refl in
    about c.format-2.result c.args.agent.now c.unwrap_or-name.result.now c.args.status c.args.index _ _ status index c.format-2.ensures.ok word
    (λ none. c.if-index-eq0.false (ap (cast_unsigned w32) none))
