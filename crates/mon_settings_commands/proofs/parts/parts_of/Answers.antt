use Rattle.std.proofs.Common.{List, ap, inl, inr, length, subst, sym}
use Rattle.std.specs.Global.{Vec}
use Rattle.std.specs.Prelude.{Result}
use Rattle.mon_client.specs.Network.{agents_by}
use Rattle.mon_console.specs.declared.failure.Failure.{Failure}
use Rattle.mon_survey.specs.declared.longest.Drafted.{Drafted}
use Rattle.mon_settings_commands.specs.Parts.{AreGroupsFrom, AreParted}
use Rattle.mon_settings_commands.specs.Source.{source_in}
use Rattle.mon_settings_commands.proofs.Groups.{all_groups, one_group_more}
use Rattle.mon_settings_commands.proofs.Turns.{failure_is}
use Rattle.mon_settings_commands.proofs.parts.parts_of.Goals as goal

pub returns-in_err-groups : goal.returns-in_err-groups
returns-in_err-groups g c = subst (λ (r : Result (Vec Drafted) Failure). AreParted (agents_by (g.N.Opens.has_opened c.args.net.now) (g.N.Opens.has_failed c.args.net.now) g.N.Wire.Wire.log) (source_in c.args.input.now) r)
    (sym (failure_is c.from_residual.result c.in_err-groups.field-0.0 c.from_residual.ensures.1)) (inl c.in_err-groups.ensures.refused)

pub returns-in_err-add_part : goal.returns-in_err-add_part
returns-in_err-add_part g c = subst (λ (r : Result (Vec Drafted) Failure). AreParted (agents_by (g.N.Opens.has_opened c.args.net.now) (g.N.Opens.has_failed c.args.net.now) g.N.Wire.Wire.log) (source_in c.args.input.now) r)
    (sym (failure_is c.from_residual-in_err-add_part.result c.in_err-add_part.field-0.0 c.from_residual-in_err-add_part.ensures.1))
    (inr (c.loop-group.group, c.in_err-add_part.ensures.refused))

pub loop-group-init : goal.loop-group-init
loop-group-init g c = (ap length c.new-parts.ensures.items, subst (λ (ps : List Drafted). AreGroupsFrom (agents_by (g.N.Opens.has_opened c.args.net.now) (g.N.Opens.has_failed c.args.net.now) g.N.Wire.Wire.log) (source_in c.args.input.now) 0 ps) (sym c.new-parts.ensures.items) tt)

pub loop-group-preserved : goal.loop-group-preserved
loop-group-preserved g c = one_group_more (agents_by (g.N.Opens.has_opened c.args.net.now) (g.N.Opens.has_failed c.args.net.now) g.N.Wire.Wire.log) (source_in c.args.input.now) c.loop-group.parts.items c.add_part.new.parts.items c.loop-group.group c.loop-group.invariant.0 c.loop-group.invariant.1
    c.in_ok-add_part.ensures.added

pub returns : goal.returns
returns g c = (
  all_groups (source_in c.args.input.now) c.loop-group.parts.items c.loop-group.group c.in_ok-groups.groups c.loop-group.invariant.0 c.loop-group-test.false c.loop-group.auto.group-end
      c.in_ok-groups.ensures.last,
  c.loop-group.invariant.1,
)
