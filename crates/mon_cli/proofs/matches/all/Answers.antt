use Rattle.std.proofs.Common.{◌∙◌, ap, sym, [], unwrap_or}
use Rattle.mon_cli.proofs.Reading.{all_or, all_read}
use Rattle.mon_cli.proofs.matches.all.Goals as goal

pub returns : goal.returns
returns c =
    all_or c.get_raw.result c.unwrap_or_default.result c.unwrap_or_default.ensures
    ∙ sym (ap (λ o. unwrap_or o []) (all_read c.args.matches.now c.args.id.now c.get_raw.result c.get_raw.ensures))
