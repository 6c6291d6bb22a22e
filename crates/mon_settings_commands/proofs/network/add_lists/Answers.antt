use Rattle.std.proofs.Common.{◌++◌, ◌∷◌, ◌∙◌, [], List, ap, append_assoc}
use Rattle.mon_settings_commands.specs.declared.network.Output.{Output}
use Rattle.mon_settings_commands.proofs.network.add_lists.Goals as goal

pub returns : goal.returns
returns c =
    let targets = c.in_ok-targets.targets in
    let units = c.in_ok-units.units in (
      targets,
      units,
      c.in_ok-push-2.ensures.items ∙ (ap (λ (xs : List Output). xs ++ units ∷ []) c.in_ok-push.ensures.items ∙ append_assoc c.args.outputs.now.items (targets ∷ []) (units ∷ [])),
      c.in_ok-targets.ensures,
      c.in_ok-units.ensures,
    )
