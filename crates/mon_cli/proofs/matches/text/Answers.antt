use Rattle.std.proofs.Common.{◌∙◌, ap, [], unwrap_or}
use Rattle.mon_cli.proofs.Reading.{text_or}
use Rattle.mon_cli.proofs.matches.text.Goals as goal

pub returns : goal.returns
returns c = text_or c.find_value.result c.unwrap_or_default.result c.unwrap_or_default.ensures ∙ ap (λ o. unwrap_or o []) c.find_value.ensures
