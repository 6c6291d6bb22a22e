use Rattle.std.proofs.Common.{rules}
use Rattle.mon_client.proofs.client.answers.Goals as goal

pub returns-in-Bulk-clause-answer : goal.returns-in-Bulk-clause-answer
returns-in-Bulk-clause-answer g c = search rules

pub returns-then-pdu-ne0-clause-answer : goal.returns-then-pdu-ne0-clause-answer
returns-then-pdu-ne0-clause-answer g c = search rules

pub returns-else-pdu-ne0-clause-answer : goal.returns-else-pdu-ne0-clause-answer
returns-else-pdu-ne0-clause-answer g c = search rules
