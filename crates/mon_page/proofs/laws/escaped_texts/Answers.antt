use Rattle.mon_page.proofs.Escapes.{if_alias, if_name, plain, read_back}
use Rattle.mon_page.proofs.laws.escaped_texts.Goals as goal

pub returns-clause-plain : goal.returns-clause-plain
returns-clause-plain c = plain

pub returns-clause-read_back : goal.returns-clause-read_back
returns-clause-read_back c = read_back

pub returns-clause-if_name : goal.returns-clause-if_name
returns-clause-if_name c = if_name

pub returns-clause-if_alias : goal.returns-clause-if_alias
returns-clause-if_alias c = if_alias
