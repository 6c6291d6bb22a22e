use Rattle.std.proofs.Common.{◌≡◌, ℕ, List, Some, length, refl, sym, ap, subst, ◌∙◌}
use Rattle.std.specs.Prelude.{slice_get}
use Rattle.std.specs.Option.{option_and_then, option_map}
use Rattle.std.proofs.lemmas.Option.{slice_get_read}
use Rattle.mon_rounds.specs.declared.freshness.InstanceAge.{InstanceAge}
use Rattle.mon_rounds.specs.declared.freshness.TargetAge.{TargetAge}
use Rattle.mon_rounds.specs.Explained.{address_for}
use Rattle.mon_rounds.proofs.explaining.address_for.Goals as goal

found : (targets : List TargetAge) (instances : List InstanceAge) (number place : ℕ) (i : InstanceAge) (t : TargetAge) → slice_get instances number ≡ Some i → i.target ≡ Some place → slice_get targets place ≡ Some t
    → Some t.address ≡ address_for targets (slice_get instances number)
found targets instances number place i t at polled there =
    sym (ap (address_for targets) at ∙ ap (option_and_then (λ n. option_map (λ (a : TargetAge). a.address) (slice_get targets n))) polled ∙ ap (option_map (λ (a : TargetAge). a.address)) there)

pub returns-in-Some : goal.returns-in-Some
returns-in-Some c =
    let targets = c.args.targets.now in
    let instances = c.args.instances.now in
    let i = c.in_ok-instance.instance.now in
    let t = c.in-Some.target.now in
    let one = c.in_ok-instance.ensures.lookup in
    let other = c.in-Some.ensures.lookup in
    found targets instances c.args.number c.in_ok-target.target i t (slice_get_read instances (length instances) c.args.number i refl one.3.0 one.1) c.in_ok-target.was
    (subst (λ n. slice_get targets n ≡ Some t) c.from.ensures (slice_get_read targets (length targets) c.from.result t refl other.3.0 other.1))

pub returns-in_err-target : goal.returns-in_err-target
returns-in_err-target c =
    let instances = c.args.instances.now in
    let i = c.in_ok-instance.instance.now in
    let one = c.in_ok-instance.ensures.lookup in
    c.from_residual-in_err-target.ensures
    ∙ sym (ap (address_for c.args.targets.now) (slice_get_read instances (length instances) c.args.number i refl one.3.0 one.1) ∙ ap (option_and_then (λ n. option_map (λ (a : TargetAge). a.address) (slice_get c.args.targets.now n))) c.in_err-target.was)
