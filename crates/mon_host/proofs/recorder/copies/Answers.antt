use Rattle.std.proofs.Common.{arith, map, string_bytes, ap, ◌∙◌}
use Rattle.std.proofs.lemmas.Grind.{common_steps}
use Rattle.std.proofs.lemmas.List.{take_all}
use Rattle.mon_host.proofs.recorder.copies.Goals as goal

pub returns : goal.returns
returns c = c.loop-word.invariant ∙ ap (map string_bytes) (take_all c.loop-word.word-index c.args.words.now c.loop-word-test.false)

pub loop-word-preserved : goal.loop-word-preserved
loop-word-preserved c = grind (arith, common_steps)
