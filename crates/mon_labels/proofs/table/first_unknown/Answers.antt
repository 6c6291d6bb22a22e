use Rattle.std.proofs.Common.{ap, option_map, string_bytes, ◌∙◌}
use Rattle.mon_labels.proofs.KeyNames.{copied_now, first_is}
use Rattle.mon_labels.proofs.table.first_unknown.Goals as goal

pub returns : goal.returns
returns c = copied_now c.found.result ∙ ap (option_map string_bytes) c.found.ensures ∙ first_is c.args.keys.now c.args.table.now.entries
