use Rattle.snmpmon.proofs.Runs.{hints}
use Rattle.snmpmon.proofs.commands.hint.Goals as goal

pub returns-then-is_at_terminal : goal.returns-then-is_at_terminal
returns-then-is_at_terminal g c = hints c.is_at_terminal.result _ _ _ c.if-is_at_terminal.true c.is_at_terminal.ensures c.note.ensures
