use Rattle.std.proofs.Common.{◌<◌, ◌∙◌, sym, length, rules}
use Rattle.mon_http.proofs.Fronts.{skip_kept}
use Rattle.mon_http.proofs.connection.add_octets.Goals as goal

pub returns-else-is_empty-clause-octets : goal.returns-else-is_empty-clause-octets
returns-else-is_empty-clause-octets c =
    let some : 0 < length c.args.input.now.items = search rules in
    (search rules) ∙ sym (skip_kept c.args.input.now.items c.args.octets.now c.requires.front some)
