use Rattle.std.proofs.Common.{◌∷◌, sym, ap, ◌∙◌}
use Rattle.std.specs.List.{flat_map}
use Rattle.std.specs.Option.{option_copied}
use Rattle.mon_poller.specs.Stamp.{engine_boots_name, engine_time_name}
use Rattle.mon_poller.specs.Target.{object_names}
use Rattle.mon_poller.specs.Verdict.{have_names, have_after}
use Rattle.mon_poller.proofs.offers.have_names.Goals as goal

pub returns-in_default : goal.returns-in_default
returns-in_default c =
    let objects = flat_map object_names c.args.target.now.objects in
    sym (c.after_name.ensures (engine_boots_name ∷ engine_time_name ∷ objects) ∙ ap (λ o. have_after (engine_boots_name ∷ engine_time_name ∷ objects) (option_copied o)) c.in_default.is)

pub returns-in_default-after_name : goal.returns-in_default-after_name
returns-in_default-after_name c =
    let objects = flat_map object_names c.args.target.now.objects in
    sym (c.after_name.ensures (engine_boots_name ∷ engine_time_name ∷ objects) ∙ ap (λ o. have_after (engine_boots_name ∷ engine_time_name ∷ objects) (option_copied o)) c.in-Some.is ∙ c.after_name-2.ensures (engine_time_name ∷ objects) ∙ ap (λ o. have_after (engine_time_name ∷ objects) (option_copied o)) c.in_default-after_name.is)

pub returns-in_default-after_name-2 : goal.returns-in_default-after_name-2
returns-in_default-after_name-2 c =
    let objects = flat_map object_names c.args.target.now.objects in
    sym (c.after_name.ensures (engine_boots_name ∷ engine_time_name ∷ objects) ∙ ap (λ o. have_after (engine_boots_name ∷ engine_time_name ∷ objects) (option_copied o)) c.in-Some.is ∙ c.after_name-2.ensures (engine_time_name ∷ objects) ∙ ap (λ o. have_after (engine_time_name ∷ objects) (option_copied o)) c.in-Some-after_name.is ∙ c.after_name-3.ensures objects ∙ ap (λ o. have_after objects (option_copied o)) c.in_default-after_name-2.is)

pub returns : goal.returns
returns c =
    let objects = flat_map object_names c.args.target.now.objects in
    c.name_objects.ensures ∙ ap (λ os. have_names (flat_map object_names os) c.in-Some-after_name-2.bindings.now) c.as_slice.ensures
    ∙ sym (c.after_name.ensures (engine_boots_name ∷ engine_time_name ∷ objects) ∙ ap (λ o. have_after (engine_boots_name ∷ engine_time_name ∷ objects) (option_copied o)) c.in-Some.is ∙ c.after_name-2.ensures (engine_time_name ∷ objects) ∙ ap (λ o. have_after (engine_time_name ∷ objects) (option_copied o)) c.in-Some-after_name.is ∙ c.after_name-3.ensures objects ∙ ap (λ o. have_after objects (option_copied o)) c.in-Some-after_name-2.is)
