use Rattle.std.proofs.Common.{◌∙◌, ap, sym, false, codes, option_map}
use Rattle.std.specs.Option.{option_map_or}
use Rattle.std.specs.Str.{bytes_eq}
use Rattle.mon_cli.proofs.matches.is_on.Goals as goal

pub returns-in-Some : goal.returns-in-Some
returns-in-Some c = c.eq.ensures ∙ ap (λ o. option_map_or (λ t. bytes_eq t (codes "true")) o false) (sym (ap (option_map (λ x. x.now)) c.in-Some.is) ∙ c.find_value.ensures)

pub returns-in-None : goal.returns-in-None
returns-in-None c = ap (λ o. option_map_or (λ t. bytes_eq t (codes "true")) o false) (sym (ap (option_map (λ x. x.now)) c.in-None.is) ∙ c.find_value.ensures)
