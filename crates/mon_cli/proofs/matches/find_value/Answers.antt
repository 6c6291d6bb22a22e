use Rattle.std.proofs.Common.{sym}
use Rattle.mon_cli.proofs.Reading.{first_read}
use Rattle.mon_cli.proofs.matches.find_value.Goals as goal

pub returns : goal.returns
returns c = sym (first_read c.args.matches.now c.args.id.now c.get_str.result c.get_str.ensures)
