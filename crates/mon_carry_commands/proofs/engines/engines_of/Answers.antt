use Rattle.mon_carry_commands.proofs.Digits.{read_none}
use Rattle.mon_carry_commands.proofs.engines.engines_of.Goals as goal

pub returns-in_err-engine : goal.returns-in_err-engine
returns-in_err-engine c = read_none c.args.texts.now c.loop-text.text-index _ c.in_err-engine.field-0.0 c.from_residual-in_err-engine.result c.loop-text-test.true c.from_residual-in_err-engine.ensures.1 c.in_err-engine.ensures
